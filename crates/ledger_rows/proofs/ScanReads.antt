-- What a scan of a table answers and leaves.
use Rattle.std.proofs.Common.{◌≡◌, ℕ, ◌+◌, ◌&&◌, Bool, true, false, if◌then◌else◌, List, [], ◌∷◌, ◌++◌, length, Option, Some, None, IfSome, Ok, Err, refl, sym, ap, subst, ◌∙◌, arith, inl, inr, ◌⊎◌}
use Rattle.std.specs.List.{Contains}
use Rattle.std.specs.Option.{option_map, option_or, option_and_then}
use Rattle.std.specs.FinMap.{get}
use Rattle.std.specs.Str.{bytes_eq}
use Rattle.std.proofs.lemmas.Bool.{cases_Bool}
use Rattle.std.proofs.lemmas.Slice.Eq.{bytes_eq-Decides}
use Rattle.dh_base.specs.Fields.{name_field}
use Rattle.dh_base.specs.Names.{is_name}
use Rattle.keeper_core.specs.declared.row.Row.{Row}
use Rattle.keeper_core.specs.declared.store_fault.StoreFault.{StoreFault}
use Rattle.keeper_core.specs.Keeping.{ListsTable}
use Rattle.keeper_core.specs.Knowing.{Known, LooksAtMost}
use Rattle.keeper_core.specs.Leaving.{Ended, done, starved, refused, of_store_fault, Leaves}
use Rattle.keeper_core.specs.Stepping.{WhereTold, IsRefusal}
use Rattle.keeper_core.specs.StoreFaults.{bad_row_of, HasCause}
use Rattle.keeper_core.specs.Tables.{Tables, rows_of}
use Rattle.keeper_core.proofs.Leaving.{if_some, read_and}
use Rattle.keeper_core.proofs.OneListing.{here, later_on}
use Rattle.keeper_core.proofs.Scanned.{contains_cases, scans_list_the_map}
use Rattle.act_text.specs.declared.statement.HeldRow.{HeldRow}
use Rattle.ledger_rows.specs.Asking.{Asks}
use Rattle.ledger_rows.specs.RowReading.{is_formed, LacksForm}
use Rattle.ledger_rows.specs.Scanning.{rows_in, first_unformed, rows_refusal, scan_refusal, amount_in, above_zero, listed_by, listed, amount_at, AreAmounts}
use Rattle.ledger_rows.proofs.RowReads.{where_told, look_keeps}

-- ---- one call behind another

module _ {A B F : Type 0} (by_fault : F → Ended) (looks : Tables → ℕ) (refusal : Tables → Option F) (IsAnswer : Tables → A → Type 0) (IsOther : Tables → B → Type 0) where
  told_on : (P R : Tables → Type 0) (before after : Option Tables) → ((tables : Tables) → P tables → R tables) → IfSome after (λ _. IfSome before P) → IfSome after (λ _. IfSome before R)
  told_on P R before None on p = tt
  told_on P R None (Some later) on p = tt
  told_on P R (Some tables) (Some later) on p = on tables p

  -- what is made of an answer
  pub asks_on : (x : A) (y : B) (before after : Known) → ((tables : Tables) → IsAnswer tables x → IsOther tables y) → Asks by_fault looks refusal IsAnswer (Ok x) before after → Asks by_fault looks refusal IsOther (Ok y) before after
  asks_on x y before after on asked = record {
    reply = told_on _ _ before.tables after.tables (λ tables is. (is.0, on tables is.1)) asked.reply;
    leaves = asked.leaves;
    looked = asked.looked;
  }

  -- a fault of another call
  pub asks_refused : (fault : F) (before after : Known) → Asks by_fault looks refusal IsAnswer (Err fault) before after → Asks by_fault looks refusal IsOther (Err fault) before after
  asks_refused fault before after asked = record { reply = asked.reply; leaves = asked.leaves; looked = asked.looked }

  -- want of memory behind a call
  pub asks_starved : (x : A) (fault : F) (before after : Known) → by_fault fault ≡ starved → Asks by_fault looks refusal IsAnswer (Ok x) before after → Asks by_fault looks refusal IsOther (Err fault) before after
  asks_starved x fault before after is asked = record {
    reply = told_on _ _ before.tables after.tables (λ tables ok. subst (λ (how : Ended). IsRefusal how (refusal tables) fault) (sym is) tt) asked.reply;
    leaves = subst (λ (how : Ended). Leaves [] how before after) (sym is) (read_and starved before after (λ e. absurd cc) asked.leaves);
    looked = asked.looked;
  }

-- ---- the rows of a table

found_unformed : (tab : ℕ) (rows : List Row) (row : Row) → first_unformed tab rows ≡ Some row → Contains rows row × LacksForm tab row
found_unformed tab [] row e = absurd cc
found_unformed tab (first ∷ rows) row e = go (found_unformed tab rows row) (is_formed tab first) refl e
  where
    go : (first_unformed tab rows ≡ Some row → Contains rows row × LacksForm tab row) → (formed : Bool) → is_formed tab first ≡ formed → (if formed then first_unformed tab rows else Some first) ≡ Some row →
        Contains (first ∷ rows) row × LacksForm tab row
    go later true is found = let rest = later found in (later_on first rows row rest.0, rest.1)
    go later false is found = let same : first ≡ row = cc in (subst (λ (r : Row). Contains (first ∷ rows) r) same (here first rows), ap (λ (r : Row). is_formed tab r) (sym same) ∙ is)

named : (tab : ℕ) (o : Option Row) (fault : StoreFault) → option_map (λ (row : Row). bad_row_of tab row.key) o ≡ Some fault → (row : Row) × (o ≡ Some row) × (bad_row_of tab row.key ≡ fault)
named tab None fault e = absurd cc
named tab (Some row) fault e = (row, refl, cc)

module _ (tab : ℕ) (rows : List Row) (before after : Known) (lists : ListsTable after.tables tab rows) (looks : Leaves [] done before after) (looked : LooksAtMost (1 + length rows) before after) where
  of_table : (P : List Row → Type 0) → P rows → WhereTold before after (λ tables. P (rows_of tab tables))
  of_table P holds = where_told (λ tables. P (rows_of tab tables)) before.tables after.tables (look_keeps before after looks) (if_some after.tables _ _ (λ tables is. subst P is holds) lists)

  pub scan_done : first_unformed tab rows ≡ None → Asks of_store_fault (rows_in tab) (scan_refusal tab) (λ tables answer. answer ≡ rows_of tab tables) (Ok rows) before after
  scan_done formed = record {
    reply = of_table (λ rs. (rows_refusal tab rs ≡ None) × (rows ≡ rs)) (ap (option_map (λ (row : Row). bad_row_of tab row.key)) formed, refl);
    leaves = looks;
    looked = of_table (λ rs. LooksAtMost (1 + length rs) before after) looked;
  }

  pub scan_unformed : (fault : StoreFault) → rows_refusal tab rows ≡ Some fault →
      Asks of_store_fault (rows_in tab) (scan_refusal tab) (λ tables answer. answer ≡ rows_of tab tables) (Err fault) before after × HasCause LacksForm after.tables fault
  scan_unformed fault is =
      let row = named tab (first_unformed tab rows) fault is in
      let found = found_unformed tab rows row.0 row.1 in
      subst (λ (f : StoreFault). Asks of_store_fault (rows_in tab) (scan_refusal tab) (λ tables answer. answer ≡ rows_of tab tables) (Err f) before after × HasCause LacksForm after.tables f) row.2 (
        record {
          reply = of_table (λ rs. rows_refusal tab rs ≡ Some (bad_row_of tab row.0.key)) (ap (option_map (λ (r : Row). bad_row_of tab r.key)) row.1);
          leaves = read_and refused before after (λ e. absurd cc) looks;
          looked = of_table (λ rs. LooksAtMost (1 + length rs) before after) looked;
        },
        record {
          row = row.0;
          named = refl;
          lacks = found.1;
          stands = if_some after.tables _ _ (λ tables is. (scans_list_the_map tab row.0 tables).0 (subst (λ (rs : List Row). Contains rs row.0) is found.0)) lists;
        },
      )

-- ---- amounts of a told table

or_same : (o : Option ℕ) → option_or o o ≡ o
or_same None = refl
or_same (Some n) = refl

or_none : (o : Option ℕ) → option_or o None ≡ o
or_none None = refl
or_none (Some n) = refl

module _ (tab : ℕ) (front : List ℕ) (tables : Tables) (asset : List ℕ) where
  abbrev key : List ℕ
  key = front ++ name_field asset

  no_name : (rows : List Row) → is_name asset ≡ false → listed front rows asset ≡ None
  no_name [] e = refl
  no_name (row ∷ rows) e =
      (λ i. option_or (no_name rows e i) (unnamed row i))
    where
      unnamed : (row : Row) → listed_by front row asset ≡ None
      unnamed row = rw e refl

  apart_row : (row : Row) → (row.key ≡ key → ⊥) → listed_by front row asset ≡ None
  apart_row row apart = go (is_name asset) (bytes_eq row.key key) refl
    where
      go : (named there : Bool) → bytes_eq row.key key ≡ there → (if named && there then above_zero (amount_in row.val) else None) ≡ None
      go true true is = absurd (apart ((bytes_eq-Decides row.key key).0 is))
      go true false is = refl
      go false there is = refl

  its_row : (row : Row) (val : List ℕ) → is_name asset ≡ true → row.key ≡ key → row.val ≡ val → listed_by front row asset ≡ above_zero (amount_in val)
  its_row row val named is val_is =
      let there : bytes_eq row.key key ≡ true = (bytes_eq-Decides row.key key).1 is in
      rw (named, there) (ap (λ (v : List ℕ). above_zero (amount_in v)) val_is)

  none_there : (rows : List Row) → ((row : Row) → Contains rows row → row.key ≡ key → ⊥) → listed front rows asset ≡ None
  none_there [] apart = refl
  none_there (row ∷ rows) apart = (λ i. option_or (none_there rows (λ r there. apart r (later_on row rows r there)) i) (apart_row row (apart row (here row rows)) i))

  -- where all rows at the key have one value, that is listed, or nothing
  one_or_none : (rows : List Row) (val : List ℕ) → is_name asset ≡ true → ((row : Row) → Contains rows row → row.key ≡ key → row.val ≡ val) → (listed front rows asset ≡ None) ⊎ (listed front rows asset ≡ above_zero (amount_in val))
  one_or_none [] val named same = inl refl
  one_or_none (row ∷ rows) val named same =
      go (one_or_none rows val named (λ r there. same r (later_on row rows r there))) (cases_Bool (bytes_eq row.key key))
    where
      go : (listed front rows asset ≡ None) ⊎ (listed front rows asset ≡ above_zero (amount_in val)) → (bytes_eq row.key key ≡ true) ⊎ (bytes_eq row.key key ≡ false) →
          (listed front (row ∷ rows) asset ≡ None) ⊎ (listed front (row ∷ rows) asset ≡ above_zero (amount_in val))
      go (inl none) (inl is) = inr (λ i. option_or (none i) (its_row row val named ((bytes_eq-Decides row.key key).0 is) (same row (here row rows) ((bytes_eq-Decides row.key key).0 is)) i))
      go (inr some) (inl is) = inr ((λ i. option_or (some i) (its_row row val named ((bytes_eq-Decides row.key key).0 is) (same row (here row rows) ((bytes_eq-Decides row.key key).0 is)) i)) ∙ or_same (above_zero (amount_in val)))
      go (inl none) (inr apart) = inl (λ i. option_or (none i) (apart_row row (λ e. (let there : bytes_eq row.key key ≡ true = (bytes_eq-Decides row.key key).1 e in absurd cc)) i))
      go (inr some) (inr apart) = inr ((λ i. option_or (some i) (apart_row row (λ e. (let there : bytes_eq row.key key ≡ true = (bytes_eq-Decides row.key key).1 e in absurd cc)) i)) ∙ or_none (above_zero (amount_in val)))

  one_there : (rows : List Row) (val : List ℕ) (row : Row) → is_name asset ≡ true → Contains rows row → row.key ≡ key → ((r : Row) → Contains rows r → r.key ≡ key → r.val ≡ val) → listed front rows asset ≡ above_zero (amount_in val)
  one_there [] val row named (k, lt, is) at same = absurd (omega arith)
  one_there (first ∷ rows) val row named there at same = elim (contains_cases first row rows there) [
    | inl is ↦
        let first_key : first.key ≡ key = ap (λ (r : Row). r.key) is ∙ at in
        either (one_or_none rows val named (λ r later. same r (later_on first rows r later))) (its_row first val named first_key (same first (here first rows) first_key))
    | inr later ↦
        behind (one_there rows val row named later at (λ r rest. same r (later_on first rows r rest))) (one_or_none (first ∷ []) val named (λ r only. same r (only_first r only)))
  ]
    where
      only_first : (r : Row) → Contains (first ∷ []) r → Contains (first ∷ rows) r
      only_first r only = elim (contains_cases first r [] only) [
        | inl is ↦ subst (λ (x : Row). Contains (first ∷ rows) x) is (here first rows)
        | inr none ↦ absurd (omega (arith, none.1))
      ]

      either : (listed front rows asset ≡ None) ⊎ (listed front rows asset ≡ above_zero (amount_in val)) → listed_by front first asset ≡ above_zero (amount_in val) → listed front (first ∷ rows) asset ≡ above_zero (amount_in val)
      either (inl none) is = (λ i. option_or (none i) (is i))
      either (inr some) is = (λ i. option_or (some i) (is i)) ∙ or_same (above_zero (amount_in val))

      behind : listed front rows asset ≡ above_zero (amount_in val) → (listed_by front first asset ≡ None) ⊎ (listed_by front first asset ≡ above_zero (amount_in val)) → listed front (first ∷ rows) asset ≡ above_zero (amount_in val)
      behind some (inl none) = (λ i. option_or (some i) (none i)) ∙ or_none (above_zero (amount_in val))
      behind some (inr is) = (λ i. option_or (some i) (is i)) ∙ or_same (above_zero (amount_in val))

  -- the rows of the table list what it has of the asset
  pub listed_there : listed front (rows_of tab tables) asset ≡ amount_at tab front tables asset
  listed_there = elim (cases_Bool (is_name asset)) [
    | inr unnamed ↦ no_name (rows_of tab tables) unnamed ∙ sym (rw unnamed refl)
    | inl named ↦ by_row named (get tables (tab, key)) refl ∙ sym (rw named refl)
  ]
    where
      by_row : is_name asset ≡ true → (o : Option (List ℕ)) → get tables (tab, key) ≡ o → listed front (rows_of tab tables) asset ≡ option_and_then (λ val. above_zero (amount_in val)) (get tables (tab, key))
      by_row named None none = none_there (rows_of tab tables) (λ row there at.
          (let found : get tables (tab, row.key) ≡ Some row.val = (scans_list_the_map tab row tables).0 there in
          let here_is : get tables (tab, key) ≡ Some row.val = ap (λ (k : List ℕ). get tables (tab, k)) (sym at) ∙ found in
          absurd cc)) ∙ sym (ap (option_and_then (λ val. above_zero (amount_in val))) none)
      by_row named (Some val) some = one_there (rows_of tab tables) val (record { key = key; val = val }) named ((scans_list_the_map tab (record { key = key; val = val }) tables).1 some) refl (λ row there at.
          (let found : get tables (tab, row.key) ≡ Some row.val = (scans_list_the_map tab row tables).0 there in
          let same : Some row.val ≡ Some val = sym found ∙ ap (λ (k : List ℕ). get tables (tab, k)) at ∙ some in
          cc)) ∙ sym (ap (option_and_then (λ val. above_zero (amount_in val))) some)

pub amounts_at : (tab : ℕ) (front : List ℕ) (tables : Tables) (rows : List Row) (held : List HeldRow) → rows ≡ rows_of tab tables → AreAmounts (listed front rows) held → AreAmounts (amount_at tab front tables) held
amounts_at tab front tables rows held is are =
    let same : (asset : List ℕ) → listed front rows asset ≡ amount_at tab front tables asset = λ asset. ap (λ (rs : List Row). listed front rs asset) is ∙ listed_there tab front tables asset in
    record {
      ascend = are.ascend;
      all = λ row. ((λ there. sym (same row.asset) ∙ (are.all row).0 there), (λ amount. (are.all row).1 (same row.asset ∙ amount)));
    }
