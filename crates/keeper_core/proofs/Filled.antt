-- The map of what stands in slots.
use Rattle.std.proofs.Common.{◌≡◌, ℕ, T, ◌&&◌, Bool, true, false, cond, List, [], ◌∷◌, Option, Some, None, refl, sym, ap, ◌∙◌, inl, inr}
use Rattle.std.specs.Option.{is_some}
use Rattle.std.specs.declared.cmp.Ordering.{Ordering}
use Rattle.std.specs.declared.cmp.Ordering.TheVariants.{Less, Equal, Greater}
use Rattle.std.specs.Ordering.{is_eq, is_lt, eq_by_cmp}
use Rattle.std.specs.FinMap.{empty, get-empty, entries, entries_sorted, get, get-entries, contains_key, insert, get-insert, remove, get-remove, find, get-from_entries, same_map, is_sorted}
use Rattle.std.specs.FinMap.Entries.{below_all}
use Rattle.std.proofs.lemmas.Bool.{cases_Bool}
use Rattle.keeper_core.specs.Tables.{Cell, cell_cmp}
use Rattle.keeper_core.specs.Slots.{Slot, Slots, held, with_room, full_in, filled}
use Rattle.keeper_core.proofs.Numbered.{cells_total, exact_cells, equal_of}

pub first_of : (a b : Bool) → T (a && b) → T a
first_of true b h = tt
first_of false b h = absurd h

pub second_of : (a b : Bool) → T (a && b) → T b
second_of true b h = h
second_of false b h = absurd h

lt_not_eq : (r : Ordering) → T (is_lt r) → is_eq r ≡ false
lt_not_eq Less h = refl
lt_not_eq Equal h = absurd h
lt_not_eq Greater h = refl

pub find_below : {X : Type 0} (cell : Cell) (es : List (Cell × X)) → T (below_all cell_cmp cell es) → find cell_cmp cell es ≡ None
find_below cell [] h = refl
find_below cell (e ∷ es) h = rw (lt_not_eq (cell_cmp cell e.0) (first_of _ _ h)) (find_below cell es (second_of _ _ h))

-- what a search among the full slots finds
find_full : (cell : Cell) (es : List (Cell × Slot)) → T (is_sorted cell_cmp es) → find cell_cmp cell (full_in es) ≡ held (find cell_cmp cell es)
find_full cell [] h = refl
find_full cell ((c, Some val) ∷ es) h =
    elim (eq_by_cmp cell_cmp cell c) as (λ b. cond b (Some val) (find cell_cmp cell (full_in es)) ≡ held (cond b (Some (Some val)) (find cell_cmp cell es))) [ true ↦ refl | false ↦ find_full cell es (second_of _ _ h) ]
find_full cell ((c, None) ∷ es) h =
    elim (cases_Bool (eq_by_cmp cell_cmp cell c)) [
      | inl same ↦
          let is : cell ≡ c = exact_cells cell c (equal_of _ same) in
          let none : find cell_cmp cell es ≡ None = ap (λ (k : Cell). find cell_cmp k es) is ∙ find_below c es (first_of _ _ h) in
          rw same (find_full cell es (second_of _ _ h) ∙ ap held none)
      | inr apart ↦ rw apart (find_full cell es (second_of _ _ h))
    ]

-- what the map has at a cell
pub get_filled : (slots : Slots) (cell : Cell) → get (filled slots) cell ≡ held (get slots cell)
get_filled slots cell = get-from_entries cells_total (full_in (entries slots)) cell ∙ find_full cell (entries slots) (entries_sorted slots) ∙ ap held (sym (get-entries slots cell))

-- maps of slots that hold the same
pub filled_same : (before after : Slots) → ((cell : Cell) → held (get after cell) ≡ held (get before cell)) → filled after ≡ filled before
filled_same before after same = same_map cells_total exact_cells _ _ (λ cell. get_filled after cell ∙ same cell ∙ sym (get_filled before cell))

-- a slot that is filled
pub filled_put : (slots : Slots) (cell : Cell) (val : List ℕ) → filled (insert slots cell (Some val)) ≡ insert (filled slots) cell val
filled_put slots cell val = same_map cells_total exact_cells _ _ (λ q.
    get_filled (insert slots cell (Some val)) q ∙ ap held (get-insert cells_total slots cell (Some val) q)
    ∙ (elim (eq_by_cmp cell_cmp q cell) as (λ b. held (cond b (Some (Some val)) (get slots q)) ≡ cond b (Some val) (held (get slots q))) [ true ↦ refl | false ↦ refl ])
    ∙ ap (cond (eq_by_cmp cell_cmp q cell) (Some val)) (sym (get_filled slots q)) ∙ sym (get-insert cells_total (filled slots) cell val q))

-- a slot that is emptied
emptied : (slots : Slots) (cell : Cell) → filled (insert slots cell None) ≡ remove (filled slots) cell
emptied slots cell = same_map cells_total exact_cells _ _ (λ q.
    get_filled (insert slots cell None) q ∙ ap held (get-insert cells_total slots cell None q)
    ∙ (elim (eq_by_cmp cell_cmp q cell) as (λ b. held (cond b (Some None) (get slots q)) ≡ cond b None (held (get slots q))) [ true ↦ refl | false ↦ refl ])
    ∙ ap (cond (eq_by_cmp cell_cmp q cell) None) (sym (get_filled slots q)) ∙ sym (get-remove cells_total (filled slots) cell q))

missing : (slot : Option Slot) → is_some slot ≡ false → slot ≡ None
missing None e = refl
missing (Some slot) e = absurd cc

pub filled_clear : (slots : Slots) (cell : Cell) → filled (cond (contains_key slots cell) (insert slots cell None) slots) ≡ remove (filled slots) cell
filled_clear slots cell = elim (cases_Bool (contains_key slots cell)) [
  | inl has ↦ rw has (emptied slots cell)
  | inr none ↦ rw none (same_map cells_total exact_cells _ _ (λ q. absent none q ∙ sym (get-remove cells_total (filled slots) cell q)))
]
  where
    absent : contains_key slots cell ≡ false → (q : Cell) → get (filled slots) q ≡ cond (eq_by_cmp cell_cmp q cell) None (get (filled slots) q)
    absent none q = elim (cases_Bool (eq_by_cmp cell_cmp q cell)) [
      | inl same ↦ rw same (get_filled slots q ∙ ap (λ (k : Cell). held (get slots k)) (exact_cells q cell (equal_of _ same)) ∙ ap held (missing (get slots cell) none))
      | inr apart ↦ rw apart refl
    ]

-- room alone changes nothing
pub filled_with_room : (slots : Slots) (cell : Cell) → filled (with_room slots cell) ≡ filled slots
filled_with_room slots cell = elim (cases_Bool (contains_key slots cell)) [
  | inl has ↦ ap filled (rw has refl)
  | inr none ↦ ap filled (rw none refl) ∙ filled_same slots (insert slots cell None) (λ q. ap held (get-insert cells_total slots cell None q) ∙ still none q)
]
  where
    still : contains_key slots cell ≡ false → (q : Cell) → held (cond (eq_by_cmp cell_cmp q cell) (Some None) (get slots q)) ≡ held (get slots q)
    still none q = elim (cases_Bool (eq_by_cmp cell_cmp q cell)) [
      | inl same ↦ rw same (sym (ap (λ (k : Cell). held (get slots k)) (exact_cells q cell (equal_of _ same)) ∙ ap held (missing (get slots cell) none)))
      | inr apart ↦ rw apart refl
    ]

pub filled_empty : filled empty ≡ empty
filled_empty = same_map cells_total exact_cells _ _ (λ cell. get_filled empty cell ∙ ap held (get-empty cell_cmp cell) ∙ sym (get-empty cell_cmp cell))
