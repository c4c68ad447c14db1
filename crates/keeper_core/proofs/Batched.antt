-- What a batch leaves at a cell.
use Rattle.std.proofs.Common.{◌≡◌, true, false, List, [], ◌∷◌, map, refl, sym, ap, ◌∙◌, arith, inl, inr}
use Rattle.std.specs.List.{Contains}
use Rattle.std.specs.Ordering.{eq_by_cmp}
use Rattle.std.specs.Cmp.{tied_itself}
use Rattle.std.specs.FinMap.{get, get-insert, get-remove}
use Rattle.std.proofs.lemmas.Bool.{cases_Bool}
use Rattle.std.proofs.lemmas.List.Elements.{Contains-append_right}
use Rattle.keeper_core.specs.declared.change.Change.{Change}
use Rattle.keeper_core.specs.declared.change.Change.TheVariants.{Put, Delete}
use Rattle.keeper_core.specs.Tables.{Cell, cell_cmp, Tables}
use Rattle.keeper_core.specs.Batches.{cell_of, value_of, after_change, after_batch, LaterWins, OthersStay}
use Rattle.keeper_core.proofs.Numbered.{cells_total, exact_cells, equal_of}
use Rattle.keeper_core.proofs.Changing.{after_batch-append}

pub at_itself : (cell : Cell) → eq_by_cmp cell_cmp cell cell ≡ true
at_itself cell = rw (tied_itself cells_total cell) refl

pub at_others : (cell other : Cell) → (other ≡ cell → ⊥) → eq_by_cmp cell_cmp cell other ≡ false
at_others cell other ne = elim (cases_Bool (eq_by_cmp cell_cmp cell other)) [
  | inl same ↦ absurd (ne (sym (exact_cells cell other (equal_of _ same))))
  | inr apart ↦ apart
]

change_here : (change : Change) (tables : Tables) → get (after_change change tables) (cell_of change) ≡ value_of change
change_here (Put tab key val) tables = get-insert cells_total tables (tab, key) val (tab, key) ∙ (rw (at_itself (tab, key)) refl)
change_here (Delete tab key) tables = get-remove cells_total tables (tab, key) (tab, key) ∙ (rw (at_itself (tab, key)) refl)

change_elsewhere : (change : Change) (tables : Tables) (cell : Cell) → (cell_of change ≡ cell → ⊥) → get (after_change change tables) cell ≡ get tables cell
change_elsewhere (Put tab key val) tables cell ne = get-insert cells_total tables (tab, key) val cell ∙ (rw (at_others cell (tab, key) ne) refl)
change_elsewhere (Delete tab key) tables cell ne = get-remove cells_total tables (tab, key) cell ∙ (rw (at_others cell (tab, key) ne) refl)

contains_first : (first : Cell) (rest : List Cell) (cell : Cell) → first ≡ cell → Contains (first ∷ rest) cell
contains_first first rest cell e = (0, omega arith, e)

pub others_stay : OthersStay
others_stay [] cell tables none = refl
others_stay (change ∷ changes) cell tables none =
    others_stay changes cell (after_change change tables) (λ there. none (Contains-append_right (cell_of change ∷ []) (map cell_of changes) cell there))
    ∙ change_elsewhere change tables cell (λ e. none (contains_first (cell_of change) (map cell_of changes) cell e))

pub later_wins : LaterWins
later_wins before after change tables none =
    ap (λ (m : Tables). get m (cell_of change)) (after_batch-append before (change ∷ after) tables)
    ∙ others_stay after (cell_of change) (after_change change (after_batch before tables)) none
    ∙ change_here change (after_batch before tables)
