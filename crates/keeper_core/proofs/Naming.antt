-- The maps of a store after room was made, and after a map was put under a name.
use Rattle.std.proofs.Common.{◌≡◌, ℕ, true, false, List, Option, Some, None, refl, sym, ap, ◌∙◌, inl, inr}
use Rattle.std.specs.Option.{is_some, unwrap_or}
use Rattle.std.specs.Ordering.{is_eq, eq_by_cmp, nat_cmp}
use Rattle.std.specs.Cmp.{tied_itself}
use Rattle.std.specs.Cmp.Lexicographic.{slice_cmp, nat_list_cmp_total}
use Rattle.std.specs.FinMap.{get, contains_key, insert, empty, get-insert}
use Rattle.std.proofs.lemmas.Bool.{cases_Bool}
use Rattle.std.proofs.lemmas.Map.Lookups.{exact_bytes}
use Rattle.keeper_core.specs.Tables.{Tables}
use Rattle.keeper_core.specs.MemoryStore.{Maps, map_in, has_room_in, with_room_for, with_map}
use Rattle.keeper_core.proofs.Numbered.{equal_of}

under_itself : (name : List ℕ) → eq_by_cmp (slice_cmp nat_cmp) name name ≡ true
under_itself name = ap is_eq (tied_itself nat_list_cmp_total name)

under_others : (other name : List ℕ) → (other ≡ name → ⊥) → eq_by_cmp (slice_cmp nat_cmp) other name ≡ false
under_others other name ne = elim (cases_Bool (eq_by_cmp (slice_cmp nat_cmp) other name)) [
  | inl same ↦ absurd (ne (exact_bytes other name (equal_of _ same)))
  | inr apart ↦ apart
]

no_map : (found : Option Tables) → is_some found ≡ false → unwrap_or found empty ≡ empty
no_map None e = refl
no_map (Some tables) e = absurd cc

keeps_inserted : (maps : Maps) (name other : List ℕ) (tables : Tables) → contains_key maps other ≡ true → contains_key (insert maps name tables) other ≡ true
keeps_inserted maps name other tables has =
    ap is_some (get-insert nat_list_cmp_total maps name tables other)
    ∙ elim (cases_Bool (eq_by_cmp (slice_cmp nat_cmp) other name)) [ inl same ↦ rw same refl | inr apart ↦ rw apart has ]

-- ---- room for a name

pub map_in-with_room : (maps : Maps) (name other : List ℕ) → map_in (with_room_for maps name) other ≡ map_in maps other
map_in-with_room maps name other = elim (cases_Bool (contains_key maps name)) [
  | inl has ↦ rw has refl
  | inr new ↦ rw new (ap (λ (found : Option Tables). unwrap_or found empty) (get-insert nat_list_cmp_total maps name empty other)
      ∙ elim (cases_Bool (eq_by_cmp (slice_cmp nat_cmp) other name)) [
        | inl same ↦ rw same (sym (ap (λ (n : List ℕ). map_in maps n) (exact_bytes other name (equal_of _ same)) ∙ no_map (get maps name) new))
        | inr apart ↦ rw apart refl
      ])
]

pub room_made_for : (maps : Maps) (name : List ℕ) → contains_key (with_room_for maps name) name ≡ true
room_made_for maps name = elim (cases_Bool (contains_key maps name)) [
  | inl has ↦ rw (has, has) refl
  | inr new ↦ rw new (ap is_some (get-insert nat_list_cmp_total maps name empty name) ∙ (rw (under_itself name) refl))
]

pub rooms_with_room : (maps : Maps) (name other : List ℕ) → has_room_in maps other → has_room_in (with_room_for maps name) other
rooms_with_room maps name other room = elim (cases_Bool (contains_key maps name)) [
  | inl has ↦ rw has room
  | inr new ↦ rw new (keeps_inserted maps name other empty room)
]

-- ---- a map under a name

pub map_in-here : (maps : Maps) (name : List ℕ) (tables : Tables) → contains_key maps name ≡ true → map_in (with_map maps name tables) name ≡ tables
map_in-here maps name tables has = rw has (ap (λ (found : Option Tables). unwrap_or found empty) here)
  where
    here : get (insert maps name tables) name ≡ Some tables
    here = get-insert nat_list_cmp_total maps name tables name ∙ (rw (under_itself name) refl)

pub map_in-elsewhere : (maps : Maps) (name : List ℕ) (tables : Tables) (other : List ℕ) → (other ≡ name → ⊥) → map_in (with_map maps name tables) other ≡ map_in maps other
map_in-elsewhere maps name tables other ne = elim (cases_Bool (contains_key maps name)) [
  | inl has ↦ rw has (ap (λ (found : Option Tables). unwrap_or found empty) elsewhere)
  | inr new ↦ rw new refl
]
  where
    elsewhere : get (insert maps name tables) other ≡ get maps other
    elsewhere = get-insert nat_list_cmp_total maps name tables other ∙ (rw (under_others other name ne) refl)

pub rooms_with_map : (maps : Maps) (name : List ℕ) (tables : Tables) (other : List ℕ) → has_room_in maps other → has_room_in (with_map maps name tables) other
rooms_with_map maps name tables other room = elim (cases_Bool (contains_key maps name)) [
  | inl has ↦ rw has (keeps_inserted maps name other tables room)
  | inr new ↦ rw new room
]

-- ---- room was made, and then the map was taken out and another put in its place

module _ (before roomy after : Maps) (name : List ℕ) (tables : Tables) (made : roomy ≡ with_room_for before name) (put : after ≡ with_map roomy name tables) where
  room_there : contains_key roomy name ≡ true
  room_there = ap (λ (m : Maps). contains_key m name) made ∙ room_made_for before name

  pub room_after : has_room_in after name
  room_after = rw put (rooms_with_map roomy name tables name room_there)

  pub rooms_after : (other : List ℕ) → has_room_in before other → has_room_in after other
  rooms_after other room = rw put (rooms_with_map roomy name tables other (rw made (rooms_with_room before name other room)))

  pub others_after : (other : List ℕ) → (other ≡ name → ⊥) → map_in after other ≡ map_in before other
  others_after other ne = ap (λ (m : Maps). map_in m other) put ∙ map_in-elsewhere roomy name tables other ne ∙ ap (λ (m : Maps). map_in m other) made ∙ map_in-with_room before name other

  pub taken_after : map_in after name ≡ tables
  taken_after = ap (λ (m : Maps). map_in m name) put ∙ map_in-here roomy name tables room_there

  pub handed : (given : Tables) → (contains_key roomy name ≡ true → given ≡ map_in roomy name) → given ≡ map_in before name
  handed given is = is room_there ∙ ap (λ (m : Maps). map_in m name) made ∙ map_in-with_room before name name
