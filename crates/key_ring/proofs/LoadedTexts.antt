-- Texts that are read from the rows of a keeper, one row after another.
use Rattle.std.proofs.Common.{◌≡◌, ℕ, ◌<◌, ◌≤◌, ◌+◌, List, [], ◌∷◌, ◌++◌, length, refl, sym, ap, ◌∙◌, append_assoc, arith, Option, Some, None, IfSome, Result, Ok, Err, IfErr, subst}
use Rattle.std.specs.Int.{w32, to_be_bytes}
use Rattle.std.specs.List.{Contains}
use Rattle.std.specs.FinMap.{get}
use Rattle.std.specs.Result.{IsErrAnd}
use Rattle.std.proofs.lemmas.List.Elements.{Contains-append_right}
use Rattle.keeper_core.specs.declared.row.Row.{Row}
use Rattle.keeper_core.specs.declared.store_fault.StoreFault.{StoreFault}
use Rattle.keeper_core.specs.declared.store_fault.StoreFault.TheVariants.{Keeper, BadRow, NoMemory}
use Rattle.keeper_core.specs.StoreFaults.{bad_row_of, HasCause}
use Rattle.keeper_core.specs.Keeping.{ListsTable}
use Rattle.keeper_core.specs.Tables.{Tables}
use Rattle.keeper_core.proofs.Scanned.{scans_list_the_map}
use Rattle.keeper_core.proofs.OneListing.{here}
use Rattle.keeper_core.specs.NumberedRows.{numbered_rows}
use Rattle.keeper_core.proofs.NumberedOn.{numbered_more}
use Rattle.key_ring.specs.UsedTexts.{used_tab, LacksForm, IsRowFault}

-- the row of the next key
pub row_taken : (rows rest rest_after : List Row) (texts after : List (List ℕ)) (key val : List ℕ) → rows ≡ numbered_rows w32 0 texts ++ rest → rest ≡ record { key = key; val = val } ∷ rest_after → key ≡ to_be_bytes w32 (length texts) → after ≡ texts ++ val ∷ [] → rows ≡ numbered_rows w32 0 after ++ rest_after
row_taken rows rest rest_after texts after key val parted next named pushed =
    parted
    ∙ ap (λ (rs : List Row). numbered_rows w32 0 texts ++ rs) (next ∙ ap (λ (k : List ℕ). record { key = k; val = val } ∷ rest_after) named)
    ∙ ap (λ (n : ℕ). numbered_rows w32 0 texts ++ record { key = to_be_bytes w32 n; val = val } ∷ rest_after) (omega arith)
    ∙ sym (append_assoc (numbered_rows w32 0 texts) (record { key = to_be_bytes w32 (0 + length texts); val = val } ∷ []) rest_after)
    ∙ ap (λ (rs : List Row). rs ++ rest_after) (sym (numbered_more w32 0 texts val))
    ∙ ap (λ (ts : List (List ℕ)). numbered_rows w32 0 ts ++ rest_after) (sym pushed)

-- another row
pub row_refused : (size : ℕ) (rows rest rest_after : List Row) (texts : List (List ℕ)) (row : Row) → rows ≡ numbered_rows w32 0 texts ++ rest → rest ≡ row ∷ rest_after → length texts ≤ size → ((length texts < size) × (row.key ≡ to_be_bytes w32 (length texts)) → ⊥) → IsRowFault size rows (bad_row_of used_tab row.key)
row_refused size rows rest rest_after texts row parted next few apart =
    (refl, row, refl, record { texts = texts; behind = rest_after; parted = parted ∙ ap (λ (rs : List Row). numbered_rows w32 0 texts ++ rs) next; fit = few; amiss = λ named. (let no_key = λ (h : length texts < size). apart (h, named) in omega (arith, no_key)) })

-- a row that was listed stands in the map
listed_stands : (told : Option Tables) (tab : ℕ) (rows before behind : List Row) (row : Row) → ListsTable told tab rows → rows ≡ before ++ row ∷ behind → IfSome told (λ tables. get tables (tab, row.key) ≡ Some row.val)
listed_stands None tab rows before behind row lists parted = tt
listed_stands (Some tables) tab rows before behind row lists parted =
    (scans_list_the_map tab row tables).0 (subst (λ (rs : List Row). Contains rs row) (sym parted ∙ lists) (Contains-append_right before (row ∷ behind) row (here row behind)))

pub row_cause : (size : ℕ) (told : Option Tables) (rows : List Row) (fault : StoreFault) → ListsTable told used_tab rows → IsRowFault size rows fault → HasCause (LacksForm size told) told fault
row_cause size told rows Keeper lists amiss = absurd amiss
row_cause size told rows (BadRow tab digest) lists (is_tab, row, named, first) = record {
  row = row;
  named = named;
  lacks = (is_tab, rows, lists, first);
  stands = subst (λ (t : ℕ). IfSome told (λ tables. get tables (t, row.key) ≡ Some row.val)) (sym is_tab) (listed_stands told used_tab rows (numbered_rows w32 0 first.texts) first.behind row lists first.parted);
}
row_cause size told rows NoMemory lists amiss = tt

-- what holds of a fault holds of the answer that hands it on
pub handed_on : {A : Type 0} (P : StoreFault → Type 0) (answer : Result A StoreFault) (fault : StoreFault) → IsErrAnd answer (λ given. given ≡ fault) → P fault → IfErr answer P
handed_on P (Ok x) fault is holds = tt
handed_on P (Err given) fault is holds = subst P (sym is) holds
