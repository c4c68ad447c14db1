-- What a scan says over tables that stand for a history.
use Rattle.std.proofs.Common.{◌≡◌, ℕ, ◌+◌, ◌<◌, ◌≤◌, ◌^◌, ◌==◌, ◌&&◌, Bool, true, false, if◌then◌else◌, List, [], ◌∷◌, ◌++◌, length, Option, Some, None, is_some, refl, sym, ap, ◌∙◌, arith, append_assoc, append-nil}
use Rattle.std.specs.Int.{w64, to_be_bytes, from_be_bytes}
use Rattle.std.specs.List.{Contains}
use Rattle.std.specs.Option.{option_map, option_and_then}
use Rattle.std.specs.FinMap.{get}
use Rattle.std.proofs.lemmas.Bool.{and_parts, eqb-true, eqb-false, le-ltb}
use Rattle.std.proofs.lemmas.List.{take_at, length-append}
use Rattle.dh_base.specs.declared.id.Id.{Id}
use Rattle.dh_base.specs.Amounts.{greatest_amount}
use Rattle.dh_base.specs.Fields.{name_field}
use Rattle.dh_base.specs.Names.{is_name}
use Rattle.dh_base.proofs.Fields.{wide64}
use Rattle.escrow_book.specs.Opening.{Row as OpeningRow}
use Rattle.escrow_book.specs.History.{History, free_of, if_commit_of, if_abort_of}
use Rattle.escrow_book.specs.Reached.{IsReached}
use Rattle.escrow_book.proofs.Bounds.{free_within, if_commit_open, if_abort_open}
use Rattle.escrow_book.proofs.Steps.{base_of}
use Rattle.escrow_book.proofs.Whole.{grown, carries_none}
use Rattle.keeper_core.specs.declared.row.Row.{Row}
use Rattle.keeper_core.specs.Tables.{Tables, rows_of}
use Rattle.keeper_core.specs.StoreFaults.{bad_row_of}
use Rattle.keeper_core.proofs.OneListing.{here, later_on}
use Rattle.keeper_core.proofs.Scanned.{scans_list_the_map}
use Rattle.ledger_rows.specs.declared.entry.Entry.{Entry}
use Rattle.ledger_rows.specs.declared.free_amount.FreeAmount.{FreeAmount}
use Rattle.ledger_rows.specs.declared.hold.Hold.{Hold}
use Rattle.ledger_rows.specs.RowKeys.{free_tab, hold_tab, free_key, hold_key, first_id, behind_id, asset_in, is_free_key, is_hold_key}
use Rattle.ledger_rows.specs.RowValues.{number_from, free_in, free_text, hold_in, hold_text}
use Rattle.ledger_rows.specs.RowReading.{is_formed}
use Rattle.ledger_rows.specs.Entries.{book_of}
use Rattle.ledger_rows.specs.LedgerTables.{free_value, hold_value, hold_of, StandsFor}
use Rattle.ledger_rows.specs.Scanning.{first_unformed, scan_refusal, amount_in, above_zero, amount_at, some_of}
use Rattle.ledger_rows.proofs.ValuesSpelled.{spelled_free, spelled_hold}
use Rattle.ledger_rows.proofs.RowsKept.{free_row_is, hold_row_is}

-- ---- rows that have their form

pub all_formed : (tab : ℕ) (rows : List Row) → ((row : Row) → Contains rows row → is_formed tab row ≡ true) → first_unformed tab rows ≡ None
all_formed tab [] each = refl
all_formed tab (row ∷ rows) each =
    ap (λ (b : Bool). if b then first_unformed tab rows else Some row) (each row (here row rows)) ∙ all_formed tab rows (λ r there. each r (later_on row rows r there))

scan_formed : (tab : ℕ) (tables : Tables) → ((row : Row) → get tables (tab, row.key) ≡ Some row.val → is_formed tab row ≡ true) → scan_refusal tab tables ≡ None
scan_formed tab tables each = ap (option_map (λ (row : Row). bad_row_of tab row.key)) (all_formed tab (rows_of tab tables) (λ row there. each row ((scans_list_the_map tab row tables).0 there)))

both : (x y : Bool) → x ≡ true → y ≡ true → (x && y) ≡ true
both true y e f = f
both false y e f = absurd cc

positive : (n : ℕ) → (n == 0) ≡ false → 0 < n
positive n some = let not_zero : n ≡ 0 → ⊥ = eqb-false n 0 some in omega arith

-- ---- free amounts

free_formed : (n : ℕ) (val : List ℕ) → n < 2 ^ 64 → free_value n ≡ Some val → is_some (free_in val) ≡ true
free_formed n val small e = go (n == 0) refl e
  where
    go : (none : Bool) → (n == 0) ≡ none → (if none then None else Some (free_text (record { amount = n }))) ≡ Some val → is_some (free_in val) ≡ true
    go true is found = absurd cc
    go false is found =
        let text : free_text (record { amount = n }) ≡ val = cc in
        ap (λ (v : List ℕ). is_some (free_in v)) (sym text) ∙ ap (λ (o : Option FreeAmount). is_some o) (spelled_free (record { amount = n }) (positive n is, small))

-- the number that a row of an amount begins with
begins_with : (n : ℕ) (rest : List ℕ) → n < 2 ^ 64 → amount_in (to_be_bytes w64 n ++ rest) ≡ n
begins_with n rest small =
    let eight : length (to_be_bytes w64 n) ≡ 8 = refl in
    let long : 8 ≤ length (to_be_bytes w64 n ++ rest) = omega (arith, length-append (to_be_bytes w64 n) rest, eight) in
    ap (λ (b : Bool). if b then 0 else number_from w64 0 (to_be_bytes w64 n ++ rest)) (le-ltb (length (to_be_bytes w64 n ++ rest)) 8 long)
    ∙ ap (from_be_bytes w64) (take_at (to_be_bytes w64 n) rest 8 eight) ∙ wide64.again n small

free_said_of : (n : ℕ) → n < 2 ^ 64 → option_and_then (λ val. above_zero (amount_in val)) (free_value n) ≡ above_zero n
free_said_of n small = go (n == 0) refl
  where
    go : (none : Bool) → (n == 0) ≡ none → option_and_then (λ val. above_zero (amount_in val)) (if none then None else Some (free_text (record { amount = n }))) ≡ (if none then None else Some n)
    go true is = refl
    go false is = ap above_zero (ap amount_in (sym (append-nil (to_be_bytes w64 n))) ∙ begins_with n [] small) ∙ ap (λ (b : Bool). if b then None else Some n) is

-- ---- holds

not_both : (m n : ℕ) → ((m == 0) && (n == 0)) ≡ false → 0 < m + n
not_both m n e = grind (arith, e)

hold_formed : (hold : Hold) (val : List ℕ) → hold.commit < 2 ^ 64 → hold.abort < 2 ^ 64 → hold_value hold ≡ Some val → is_some (hold_in val) ≡ true
hold_formed hold val small small' e = go ((hold.commit == 0) && (hold.abort == 0)) refl e
  where
    go : (none : Bool) → ((hold.commit == 0) && (hold.abort == 0)) ≡ none → (if none then None else Some (hold_text hold)) ≡ Some val → is_some (hold_in val) ≡ true
    go true is found = absurd cc
    go false is found =
        let text : hold_text hold ≡ val = cc in
        ap (λ (v : List ℕ). is_some (hold_in v)) (sym text) ∙ ap (λ (o : Option Hold). is_some o) (spelled_hold hold (not_both hold.commit hold.abort is, small, small'))

hold_said_of : (hold : Hold) → hold.commit < 2 ^ 64 → option_and_then (λ val. above_zero (amount_in val)) (hold_value hold) ≡ above_zero hold.commit
hold_said_of hold small = go ((hold.commit == 0) && (hold.abort == 0)) refl
  where
    go : (none : Bool) → ((hold.commit == 0) && (hold.abort == 0)) ≡ none → option_and_then (λ val. above_zero (amount_in val)) (if none then None else Some (hold_text hold)) ≡ above_zero hold.commit
    go true is = sym (ap above_zero (eqb-true hold.commit 0 (and_parts (hold.commit == 0) (hold.abort == 0) is).0))
    go false is = ap above_zero (begins_with hold.commit (to_be_bytes w64 hold.abort) small)

module _ (tables : Tables) (opening : List OpeningRow) (entries : List Entry) (stands : StandsFor tables opening entries) (reached : IsReached (book_of opening entries)) where
  abbrev book : History
  book = book_of opening entries

  free_small : (p : Id) (x : List ℕ) → free_of book p x < 2 ^ 64
  free_small p x = let within : free_of book p x ≤ greatest_amount = free_within (base_of book) book.changes (grown book reached) p x in omega arith

  commit_small : (d p : Id) (x : List ℕ) → if_commit_of book d p x < 2 ^ 64
  commit_small d p x = let within : if_commit_of book d p x ≤ greatest_amount = if_commit_open (base_of book) book.changes (grown book reached) d p x (carries_none book reached d) in omega arith

  abort_small : (d p : Id) (x : List ℕ) → if_abort_of book d p x < 2 ^ 64
  abort_small d p x = let within : if_abort_of book d p x ≤ greatest_amount = if_abort_open (base_of book) book.changes (grown book reached) d p x (carries_none book reached d) in omega arith

  pub free_scanned : scan_refusal free_tab tables ≡ None
  free_scanned = scan_formed free_tab tables (λ row there. go row (is_free_key row.key) refl (sym (stands.free row.key) ∙ there))
    where
      go : (row : Row) (good : Bool) → is_free_key row.key ≡ good → (if good then free_value (free_of book (first_id row.key) (asset_in row.key)) else None) ≡ Some row.val → is_formed free_tab row ≡ true
      go row true is found = both (is_some (free_in row.val)) (is_free_key row.key) (free_formed (free_of book (first_id row.key) (asset_in row.key)) row.val (free_small (first_id row.key) (asset_in row.key)) found) is
      go row false is found = absurd cc

  pub free_amounts : (account : Id) (asset : List ℕ) → length account.0 ≡ 32 → amount_at free_tab account.0 tables asset ≡ some_of (free_of book account) asset
  free_amounts account asset wide = go (is_name asset) refl
    where
      go : (named : Bool) → is_name asset ≡ named →
          (if named then option_and_then (λ val. above_zero (amount_in val)) (get tables (free_tab, free_key account asset)) else None) ≡ (if named then above_zero (free_of book account asset) else None)
      go true is =
          ap (option_and_then (λ val. above_zero (amount_in val))) (stands.free (free_key account asset) ∙ free_row_is book account asset wide is)
          ∙ free_said_of (free_of book account asset) (free_small account asset)
      go false is = refl

  -- ---- holds

  pub holds_scanned : scan_refusal hold_tab tables ≡ None
  holds_scanned = scan_formed hold_tab tables (λ row there. go row (is_hold_key row.key) refl (sym (stands.holds row.key) ∙ there))
    where
      go : (row : Row) (good : Bool) → is_hold_key row.key ≡ good →
          (if good then hold_value (hold_of book (first_id row.key) (first_id (behind_id row.key)) (asset_in (behind_id row.key))) else None) ≡ Some row.val → is_formed hold_tab row ≡ true
      go row true is found =
          let d = first_id row.key in
          let p = first_id (behind_id row.key) in
          let x = asset_in (behind_id row.key) in
          both (is_some (hold_in row.val)) (is_hold_key row.key) (hold_formed (hold_of book d p x) row.val (commit_small d p x) (abort_small d p x) found) is
      go row false is found = absurd cc

  pub hold_amounts : (deal account : Id) (asset : List ℕ) → length deal.0 ≡ 32 → length account.0 ≡ 32 → amount_at hold_tab (deal.0 ++ account.0) tables asset ≡ some_of (if_commit_of book deal account) asset
  hold_amounts deal account asset wide wide' = go (is_name asset) refl
    where
      go : (named : Bool) → is_name asset ≡ named →
          (if named then option_and_then (λ val. above_zero (amount_in val)) (get tables (hold_tab, (deal.0 ++ account.0) ++ name_field asset)) else None) ≡ (if named then above_zero (if_commit_of book deal account asset) else None)
      go true is =
          ap (λ (key : List ℕ). option_and_then (λ val. above_zero (amount_in val)) (get tables (hold_tab, key))) (append_assoc deal.0 account.0 (name_field asset))
          ∙ ap (option_and_then (λ val. above_zero (amount_in val))) (stands.holds (hold_key deal account asset) ∙ hold_row_is book deal account asset wide wide' is)
          ∙ hold_said_of (hold_of book deal account asset) (commit_small deal account asset)
      go false is = refl
