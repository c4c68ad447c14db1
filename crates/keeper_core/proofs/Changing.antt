-- What a change more does to slots and to the map that stands in them.
use Rattle.std.proofs.Common.{◌≡◌, true, cond, List, [], ◌∷◌, ◌++◌, Some, None, refl, sym, ap, ◌∙◌, inl, inr, ◌⊎◌, Result, Ok, Err, OnOk, OnErr}
use Rattle.std.specs.Option.{is_some}
use Rattle.std.specs.FinMap.{get, contains_key, insert, get-insert}
use Rattle.std.specs.Ordering.{eq_by_cmp}
use Rattle.std.specs.Cmp.{tied_itself}
use Rattle.std.proofs.lemmas.Bool.{cases_Bool}
use Rattle.keeper_core.specs.declared.change.Change.{Change}
use Rattle.keeper_core.specs.declared.change.Change.TheVariants.{Put, Delete}
use Rattle.keeper_core.specs.Tables.{Cell, cell_cmp, Tables}
use Rattle.keeper_core.specs.Batches.{after_change, after_batch}
use Rattle.keeper_core.specs.Slots.{Slot, Slots, with_room, filled}
use Rattle.keeper_core.specs.Rooms.{HasRoom, HaveRoom, KeepsSlots}
use Rattle.keeper_core.proofs.Numbered.{cells_total}
use Rattle.keeper_core.proofs.Filled.{filled_with_room}

pub after_batch-append : (xs ys : List Change) (tables : Tables) → after_batch (xs ++ ys) tables ≡ after_batch ys (after_batch xs tables)
after_batch-append [] ys tables = refl
after_batch-append (x ∷ xs) ys tables = after_batch-append xs ys (after_change x tables)

pub keeps_insert : (slots : Slots) (cell : Cell) (slot : Slot) → KeepsSlots slots (insert slots cell slot)
keeps_insert slots cell slot q has =
    ap is_some (get-insert cells_total slots cell slot q)
    ∙ elim (cases_Bool (eq_by_cmp cell_cmp q cell)) [ inl same ↦ rw same refl | inr apart ↦ rw apart has ]

pub keeps_with_room : (slots : Slots) (cell : Cell) → KeepsSlots slots (with_room slots cell)
keeps_with_room slots cell q has = elim (cases_Bool (contains_key slots cell)) [
  | inl there ↦ rw there has
  | inr none ↦ rw none (keeps_insert slots cell None q has)
]

pub keeps_clear : (slots : Slots) (cell : Cell) → KeepsSlots slots (cond (contains_key slots cell) (insert slots cell None) slots)
keeps_clear slots cell q has = elim (cases_Bool (contains_key slots cell)) [
  | inl there ↦ rw there (keeps_insert slots cell None q has)
  | inr none ↦ rw none has
]

has_room_kept : (before after : Slots) → KeepsSlots before after → (change : Change) → HasRoom before change → HasRoom after change
has_room_kept before after keeps (Put tab key val) room = keeps (tab, key) room
has_room_kept before after keeps (Delete tab key) room = room

pub have_room_kept : (before after : Slots) → KeepsSlots before after → (changes : List Change) → HaveRoom before changes → HaveRoom after changes
have_room_kept before after keeps [] room = tt
have_room_kept before after keeps (change ∷ changes) room = (has_room_kept before after keeps change room.0, have_room_kept before after keeps changes room.1)

pub have_room_more : (slots : Slots) (changes : List Change) (change : Change) → HaveRoom slots changes → HasRoom slots change → HaveRoom slots (changes ++ change ∷ [])
have_room_more slots [] change room one = (one, tt)
have_room_more slots (first ∷ changes) change room one = (room.0, have_room_more slots changes change room.1 one)

-- a cell for which room was made
pub room_for : (slots : Slots) (cell : Cell) → contains_key (with_room slots cell) cell ≡ true
room_for slots cell = elim (cases_Bool (contains_key slots cell)) [
  | inl there ↦ rw (there, there) refl
  | inr none ↦ rw none (ap is_some (get-insert cells_total slots cell None cell) ∙ tied)
]
  where
    tied : is_some (cond (eq_by_cmp cell_cmp cell cell) (Some None) (get slots cell)) ≡ true
    tied = rw (tied_itself cells_total cell) refl

-- one change more
pub made_more : (made : List Change) (change : Change) (before now after : Slots) → filled now ≡ after_batch made (filled before) → filled after ≡ after_change change (filled now) → filled after ≡ after_batch (made ++ change ∷ []) (filled before)
made_more made change before now after so_far one = one ∙ ap (after_change change) so_far ∙ sym (after_batch-append made (change ∷ []) (filled before))

module _ {F : Type 0} (r : Result (Unit {0}) F) (old new : Slots) (cell : Cell) (ok : OnOk r (new ≡ with_room old cell)) (err : OnErr r (new ≡ old)) where
  room_or_same : (new ≡ with_room old cell) ⊎ (new ≡ old)
  room_or_same = by r ok err
    where
      by : (r : Result (Unit {0}) F) → OnOk r (new ≡ with_room old cell) → OnErr r (new ≡ old) → (new ≡ with_room old cell) ⊎ (new ≡ old)
      by (Ok u) made same = inl made
      by (Err e) made same = inr same

  pub keeps_room_made : KeepsSlots old new
  keeps_room_made q has = elim room_or_same [
    | inl made ↦ ap (λ (s : Slots). contains_key s q) made ∙ keeps_with_room old cell q has
    | inr same ↦ ap (λ (s : Slots). contains_key s q) same ∙ has
  ]

  pub filled_room_made : filled new ≡ filled old
  filled_room_made = elim room_or_same [
    | inl made ↦ ap filled made ∙ filled_with_room old cell
    | inr same ↦ ap filled same
  ]
