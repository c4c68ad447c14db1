-- What reading all rows of a table answers and leaves.
use Rattle.std.proofs.Common.{◌≡◌, ℕ, ◌+◌, ◌≤◌, ◌&&◌, if◌then◌else◌, List, [], ◌∷◌, length, Option, Some, None, is_some, Result, Ok, Err, MatchResult, refl, sym, ap, subst, ◌∙◌}
use Rattle.std.specs.List.{Contains}
use Rattle.std.specs.Option.{option_map}
use Rattle.keeper_core.specs.declared.row.Row.{Row}
use Rattle.keeper_core.specs.declared.store_fault.StoreFault.{StoreFault}
use Rattle.keeper_core.specs.Keeping.{ListsTable}
use Rattle.keeper_core.specs.Knowing.{Known, LooksAtMost}
use Rattle.keeper_core.specs.Leaving.{done, refused, Leaves}
use Rattle.keeper_core.specs.Stepping.{WhereTold}
use Rattle.keeper_core.specs.StoreFaults.{bad_row_of}
use Rattle.keeper_core.specs.Tables.{rows_of}
use Rattle.keeper_core.proofs.Leaving.{if_some, read_and}
use Rattle.keeper_core.proofs.OneListing.{here, later_on}
use Rattle.keeper_core.proofs.Scanned.{scans_list_the_map}
use Rattle.ledger_rows.specs.declared.registration.Registration.{Registration}
use Rattle.ledger_rows.specs.RowKeys.{deal_tab}
use Rattle.ledger_rows.specs.RowReading.{first_formless, forms_refusal, LooksThrough, ReadsTable, has_key_form, LacksForm}
use Rattle.ledger_rows.specs.RowValues.{registration_in}
use Rattle.ledger_rows.proofs.RowReads.{where_told, look_keeps}

-- the row that is found stands in the list, and stands for nothing
found_formless : {V : Type 0} (value_of : List ℕ → Option V) (rows : List Row) (row : Row) → first_formless value_of rows ≡ Some row → Contains rows row × (value_of row.val ≡ None)
found_formless value_of [] row e = absurd cc
found_formless {V} value_of (first ∷ rows) row e = go (found_formless value_of rows row) (value_of first.val) refl e
  where
    go : (first_formless value_of rows ≡ Some row → Contains rows row × (value_of row.val ≡ None)) → (o : Option V) → value_of first.val ≡ o → (if is_some o then first_formless value_of rows else Some first) ≡ Some row →
        Contains (first ∷ rows) row × (value_of row.val ≡ None)
    go later (Some v) is found = let rest = later found in (later_on first rows row rest.0, rest.1)
    go later None is found = let same : first ≡ row = cc in (subst (λ (r : Row). Contains (first ∷ rows) r) same (here first rows), ap (λ (r : Row). value_of r.val) (sym same) ∙ is)

named : (tab : ℕ) (o : Option Row) (fault : StoreFault) → option_map (λ (row : Row). bad_row_of tab row.key) o ≡ Some fault → (row : Row) × (o ≡ Some row) × (bad_row_of tab row.key ≡ fault)
named tab None fault e = absurd cc
named tab (Some row) fault e = (row, refl, cc)

module _ {A V : Type 0} (value_of : List ℕ → Option V) (tab : ℕ) (said : List Row → A) (L : ℕ → Row → Type 0) (lacks : (row : Row) → value_of row.val ≡ None → L tab row)
    (rows : List Row) (before after : Known) (lists : ListsTable after.tables tab rows) (looks : Leaves [] done before after) (looked : LooksAtMost (1 + length rows) before after) where
  -- what holds of the rows that are given holds of the table's, where they are told
  of_table : (P : List Row → Type 0) → P rows → WhereTold before after (λ tables. P (rows_of tab tables))
  of_table P holds = where_told (λ tables. P (rows_of tab tables)) before.tables after.tables (look_keeps before after looks) (if_some after.tables _ _ (λ tables is. subst P is holds) lists)

  through : LooksThrough tab 1 before after
  through = (looked.0, of_table (λ rs. after.looked ≤ before.looked + (1 + length rs)) looked.1)

  abbrev Answers : Result A StoreFault → Known → Known → Type 0
  Answers = ReadsTable 1 tab (λ tables. Some (said (rows_of tab tables))) (λ tables. forms_refusal value_of tab (rows_of tab tables)) L

  table_refused : (row : Row) → first_formless value_of rows ≡ Some row → Answers (Err (bad_row_of tab row.key)) before after
  table_refused row first =
      let found = found_formless value_of rows row first in
      record {
        reply = of_table (λ rs. forms_refusal value_of tab rs ≡ Some (bad_row_of tab row.key)) (ap (option_map (λ (r : Row). bad_row_of tab r.key)) first);
        cause = record {
          row = row;
          named = refl;
          lacks = lacks row found.1;
          stands = if_some after.tables _ _ (λ tables is. (scans_list_the_map tab row tables).0 (subst (λ (rs : List Row). Contains rs row) is found.0)) lists;
        };
        leaves = read_and refused before after (λ e. absurd cc) looks;
        looked = through;
      }

  pub table_answers : (result : Result A StoreFault) → MatchResult result (λ answer. (first_formless value_of rows ≡ None) × (answer ≡ said rows)) (λ fault. forms_refusal value_of tab rows ≡ Some fault) → Answers result before after
  table_answers (Ok answer) says = record {
    reply = of_table (λ rs. (forms_refusal value_of tab rs ≡ None) × (Some (said rs) ≡ Some answer)) (ap (option_map (λ (r : Row). bad_row_of tab r.key)) says.0, ap (λ (a : A). Some a) (sym says.1));
    cause = tt;
    leaves = looks;
    looked = through;
  }
  table_answers (Err fault) says =
      let row = named tab (first_formless value_of rows) fault says in
      subst (λ (f : StoreFault). Answers (Err f) before after) row.2 (table_refused row.0 row.1)

-- a row of a deal whose bytes stand for nothing lacks its form
pub unread_deal : (row : Row) → registration_in row.val ≡ None → LacksForm deal_tab row
unread_deal row none = ap (λ (o : Option Registration). is_some o && has_key_form deal_tab row.key) none
