-- Tables that were empty stand for the history without entries, once they are filled.
use Rattle.std.proofs.Common.{◌≡◌, ℕ, ◌+◌, ◌&&◌, not, Bool, true, false, cond, if◌then◌else◌, nat_lt, List, [], ◌∷◌, ◌++◌, length, Option, Some, None, IsTrue, refl, sym, ap, subst, ◌∙◌, arith, append-nil, append_assoc}
use Rattle.std.specs.Str.{bytes_eq}
use Rattle.std.specs.List.Sorted.{IsStrictlySortedBy}
use Rattle.std.specs.FinMap.{get, empty, get-empty}
use Rattle.std.proofs.lemmas.Bool.{and_parts, or_parts}
use Rattle.std.proofs.lemmas.List.Sums.{sum_by_push, sum_by-cons}
use Rattle.std.proofs.lemmas.Slice.Eq.{bytes_eq-Decides}
use Rattle.dh_base.specs.declared.id.Id.{Id}
use Rattle.dh_base.specs.Ids.{same_id}
use Rattle.dh_base.specs.Names.{is_name}
use Rattle.dh_base.proofs.SameIds.{same_id-self}
use Rattle.escrow_book.specs.Opening.{Row, row_amount, opening_of, has_row, is_good_row, are_good_rows, is_good_opening, first_bad_row}
use Rattle.escrow_book.specs.History.{free_of}
use Rattle.escrow_book.specs.Reached.{started}
use Rattle.escrow_book.proofs.OpeningRows.{good_or_bad}
use Rattle.keeper_core.specs.declared.change.Change.TheVariants.{Put}
use Rattle.keeper_core.specs.Tables.{Cell, cell_cmp, Tables, rows_of}
use Rattle.keeper_core.specs.Batches.{after_batch, after_change}
use Rattle.keeper_core.proofs.Batched.{at_itself}
use Rattle.keeper_core.proofs.OneListing.{is_the_scan}
use Rattle.ledger_rows.specs.RowKeys.{free_tab, deal_tab, hold_tab, moves_tab, used_tab, entry_tab, free_key, first_id, behind_id, asset_in, is_free_key, is_hold_key, is_used_key}
use Rattle.ledger_rows.specs.RowChanges.{free_change}
use Rattle.ledger_rows.specs.LedgerTables.{free_value, hold_value, free_row, hold_of, hold_row, used_row, StandsFor}
use Rattle.ledger_rows.proofs.Cells.{same_cell, cell_is, change_at, free_at, picked}
use Rattle.ledger_rows.proofs.RowsKept.{free_row_is, kept_free, apart}
use Rattle.ledger_acts.specs.LedgerStep.{Opened}
use Rattle.ledger_acts.specs.LedgerState.{form_tab, form_key, IsState}
use Rattle.ledger_core.specs.Opens.{opening_changes, begin_changes}
use Rattle.ledger_core.specs.Openings.{AreSpelled}

-- ---- free amounts

no_row : (rows : List Row) (p : Id) (x : List ℕ) → has_row rows p x ≡ false → opening_of rows p x ≡ 0
no_row [] p x e = refl
no_row (row ∷ rows) p x e =
    let parts = or_parts (same_id p row.0 && bytes_eq x row.1) (has_row rows p x) e in
    omega (arith, ap (λ (b : Bool). cond b row.2 0) parts.0, sum_by-cons (row_amount p x) row rows, no_row rows p x parts.1)

not_true : (b : Bool) → not b ≡ true → b ≡ false
not_true true e = absurd cc
not_true false e = refl

own_amount : (row : Row) → row_amount row.0 row.1 row ≡ row.2
own_amount row = go (same_id row.0 row.0) (bytes_eq row.1 row.1) (same_id-self row.0) ((bytes_eq-Decides row.1 row.1).1 refl)
  where
    go : (a b : Bool) → a ≡ true → b ≡ true → (if a && b then row.2 else 0) ≡ row.2
    go true true ea eb = refl
    go true false ea eb = absurd cc
    go false b ea eb = absurd cc

other_amount : (row : Row) (p : Id) (x : List ℕ) → (same_id p row.0 && bytes_eq x row.1) ≡ false → row_amount p x row ≡ 0
other_amount row p x e = ap (λ (b : Bool). if b then row.2 else 0) e

abbrev Reads : List Row → Tables → Type 0
Reads rows tables = (key : List ℕ) → get tables (free_tab, key) ≡ free_row (started rows) key

more : (rows : List Row) (row : Row) (p : Id) (x : List ℕ) → free_of (started (rows ++ row ∷ [])) p x ≡ free_of (started rows) p x + row_amount p x row
more rows row p x = let e = sum_by_push (row_amount p x) rows row in omega arith

one_row : (front : List Row) (row : Row) (tables : Tables) → length row.0.0 ≡ 32 → IsTrue (is_name row.1) → has_row front row.0 row.1 ≡ false → Reads front tables → Reads (front ++ row ∷ []) (after_change (free_change row.0 row.1 row.2) tables)
one_row front row tables wide named new reads key =
    free_at row.0 row.1 row.2 tables (free_tab, key) ∙ picked _ _ _ _
    (λ is.
    let e : key ≡ free_key row.0 row.1 = ap (λ (c : Cell). c.1) (cell_is (free_tab, key) (free_tab, free_key row.0 row.1) is) in
    let n : row.2 ≡ free_of (started (front ++ row ∷ [])) row.0 row.1 = omega (arith, more front row row.0 row.1, no_row front row.0 row.1 new, own_amount row) in
    ap (λ (m : ℕ). free_value m) n ∙ sym (free_row_is (started (front ++ row ∷ [])) row.0 row.1 wide named) ∙ ap (λ (k : List ℕ). free_row (started (front ++ row ∷ [])) k) (sym e))
    (λ other. reads key ∙ sym (kept_free (started front) (started (front ++ row ∷ [])) key (λ good. omega (arith, more front row (first_id key) (asset_in key), other_amount row (first_id key) (asset_in key) (apart key row.0 row.1 good other)))))

is_new : (front : List Row) (row : Row) → is_good_row front row ≡ true → has_row front row.0 row.1 ≡ false
is_new front row good =
    let some = (and_parts (nat_lt (length front) 1024) _ good).1 in
    let rest = (and_parts (nat_lt 0 row.2) _ some).1 in
    not_true (has_row front row.0 row.1) (and_parts (not (has_row front row.0 row.1)) _ rest).0

all_rows : (front rows : List Row) (tables : Tables) → AreSpelled rows → are_good_rows front rows ≡ true → Reads front tables → Reads (front ++ rows) (after_batch (opening_changes rows) tables)
all_rows front [] tables spelled good reads = subst (λ (rows : List Row). Reads rows tables) (sym (append-nil front)) reads
all_rows front (row ∷ rows) tables spelled good reads =
    let parts = and_parts (is_good_row front row) (are_good_rows (front ++ row ∷ []) rows) good in
    subst (λ (all : List Row). Reads all (after_batch (opening_changes (row ∷ rows)) tables)) (append_assoc front (row ∷ []) rows)
    (all_rows (front ++ row ∷ []) rows (after_change (free_change row.0 row.1 row.2) tables) spelled.1 parts.1 (one_row front row tables spelled.0.0 spelled.0.1 (is_new front row parts.0) reads))

-- ---- the other tables stay empty

spared : (tab : ℕ) → ((key other : List ℕ) → same_cell (tab, key) (free_tab, other) ≡ false) → (rows : List Row) (tables : Tables) (key : List ℕ) → get (after_batch (opening_changes rows) tables) (tab, key) ≡ get tables (tab, key)
spared tab apart [] tables key = refl
spared tab apart (row ∷ rows) tables key =
    spared tab apart rows (after_change (free_change row.0 row.1 row.2) tables) key ∙ free_at row.0 row.1 row.2 tables (tab, key)
    ∙ ap (λ (b : Bool). cond b (free_value row.2) (get tables (tab, key))) (apart key (free_key row.0 row.1))

abbrev nothing : Tables
nothing = empty

abbrev no_text : Option (List ℕ)
no_text = None

module _ (identity : Id) (rows : List Row) where
  abbrev formed : Tables
  formed = after_change (Put form_tab form_key (1 ∷ 1 ∷ identity.0)) empty

  abbrev filled : Tables
  filled = after_batch (opening_changes rows) formed

  left_empty : (tab : ℕ) → ((key other : List ℕ) → same_cell (tab, key) (free_tab, other) ≡ false) → ((key : List ℕ) → same_cell (tab, key) (form_tab, form_key) ≡ false) → (key : List ℕ) → get filled (tab, key) ≡ None
  left_empty tab apart other key =
      spared tab apart rows formed key ∙ change_at (Put form_tab form_key (1 ∷ 1 ∷ identity.0)) empty (tab, key)
      ∙ ap (λ (b : Bool). cond b (Some (1 ∷ 1 ∷ identity.0)) (get nothing (tab, key))) (other key) ∙ get-empty cell_cmp (tab, key)

  empty_rows : rows_of entry_tab filled ≡ []
  unfolding IsStrictlySortedBy
  empty_rows = is_the_scan entry_tab filled [] tt (λ row found. (let e = sym (left_empty entry_tab (λ key other. refl) (λ key. refl) row.key) ∙ found in absurd cc)) (λ row there. absurd (omega (arith, there.1)))

  begun_free : Reads [] formed
  begun_free key = change_at (Put form_tab form_key (1 ∷ 1 ∷ identity.0)) empty (free_tab, key) ∙ get-empty cell_cmp (free_tab, key) ∙ go (is_free_key key)
    where
      go : (good : Bool) → None ≡ (if good then free_value (free_of (started []) (first_id key) (asset_in key)) else None)
      go true = refl
      go false = refl

  no_hold : (key : List ℕ) → None ≡ hold_row (started rows) key
  no_hold key = go (is_hold_key key)
    where
      go : (good : Bool) → None ≡ (if good then hold_value (hold_of (started rows) (first_id key) (first_id (behind_id key)) (asset_in (behind_id key))) else None)
      go true = refl
      go false = refl

  no_used : (key : List ℕ) → None ≡ used_row [] key
  no_used key = go (is_used_key key)
    where
      go : (good : Bool) → no_text ≡ (if good then no_text else no_text)
      go true = refl
      go false = refl

  form_there : get filled (form_tab, form_key) ≡ Some (1 ∷ 1 ∷ identity.0)
  form_there =
      spared form_tab (λ key other. refl) rows formed form_key ∙ change_at (Put form_tab form_key (1 ∷ 1 ∷ identity.0)) empty (form_tab, form_key)
      ∙ ap (λ (b : Bool). cond b (Some (1 ∷ 1 ∷ identity.0)) (get nothing (form_tab, form_key))) (at_itself (form_tab, form_key))

  begun_stands : AreSpelled rows → is_good_opening rows ≡ true → StandsFor filled rows []
  begun_stands spelled good = record {
    free = all_rows [] rows formed spelled good begun_free;
    deals = left_empty deal_tab (λ key other. refl) (λ key. refl);
    holds = λ key. left_empty hold_tab (λ key other. refl) (λ key. refl) key ∙ no_hold key;
    moves = left_empty moves_tab (λ key other. refl) (λ key. refl);
    used = λ key. left_empty used_tab (λ key other. refl) (λ key. refl) key ∙ no_used key;
    numbered = empty_rows;
  }

pub begins : (opened : Opened) → AreSpelled opened.rows → first_bad_row opened.rows ≡ None → IsState opened (after_batch (begin_changes opened.identity opened.rows) empty) []
begins opened spelled good =
    let is_good : is_good_opening opened.rows ≡ true = (good_or_bad [] opened.rows).1 good in
    record {
      reached = record { whole = refl; good = is_good; accepted = tt };
      few = omega arith;
      acted = omega arith;
      fits = tt;
      deals = tt;
      form = form_there opened.identity opened.rows;
      stands = begun_stands opened.identity opened.rows spelled is_good;
    }
