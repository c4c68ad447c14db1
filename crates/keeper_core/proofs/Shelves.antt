-- The maps of a store, read by the bytes of their names.
use Rattle.std.proofs.Common.{◌≡◌, ℕ, Bool, true, false, cond, List, [], ◌∷◌, Option, Some, None, refl, sym, ap, ◌∙◌}
use Rattle.std.specs.Option.{option_map, is_some, IsSome}
use Rattle.std.specs.String.{string_bytes, string_cmp}
use Rattle.std.specs.declared.string.String.{String}
use Rattle.std.specs.Str.{bytes_eq}
use Rattle.std.specs.Ordering.{is_eq, eq_by_cmp, nat_cmp}
use Rattle.std.specs.Cmp.{eq_by_cmp_equiv}
use Rattle.std.specs.Cmp.Lexicographic.{slice_cmp, nat_list_cmp_total}
use Rattle.std.specs.Map.{lookup}
use Rattle.std.specs.BTreeMap.{BTreeMap, UpdatesBy, is_at}
use Rattle.std.specs.FinMap.{empty, get, contains_key, insert, from_entries, find, get-from_entries, get-insert, same_map}
use Rattle.std.proofs.lemmas.Map.Lookups.{exact_bytes}
use Rattle.std.proofs.lemmas.Map.Text.{btree_map_updates_text, is_eq-slice_cmp}
use Rattle.keeper_core.specs.Tables.{Tables}
use Rattle.keeper_core.specs.Slots.{Slots, filled}
use Rattle.keeper_core.specs.MemoryStore.{Maps, with_room_for, with_map}
use Rattle.keeper_core.specs.Shelving.{shelved}

-- what stands under the name with these bytes
abbrev pub under : {A : Type 0} → List ℕ → List (String A × Slots) → Option Slots
under q es = lookup (is_at (λ k. slice_cmp nat_cmp q (string_bytes k))) es

find_shelved : {A : Type 0} (q : List ℕ) (es : List (String A × Slots)) → find (slice_cmp nat_cmp) q (shelved es) ≡ option_map filled (under q es)
find_shelved q [] = refl
find_shelved q (e ∷ es) =
    elim (is_eq (slice_cmp nat_cmp q (string_bytes e.0))) as (λ b. cond b (Some (filled e.1)) (find (slice_cmp nat_cmp) q (shelved es)) ≡ option_map filled (cond b (Some e.1) (under q es))) [ true ↦ refl | false ↦ find_shelved q es ]

pub get_shelved : {A : Type 0} (q : List ℕ) (es : List (String A × Slots)) → get (from_entries {R = slice_cmp nat_cmp} (shelved es)) q ≡ option_map filled (under q es)
get_shelved q es = get-from_entries nat_list_cmp_total (shelved es) q ∙ find_shelved q es

-- what a search by name found is what the maps have
pub map_found : {A : Type 0} (q : List ℕ) (es : List (String A × Slots)) (maps : Maps) (found : Option Slots) → from_entries (shelved es) ≡ maps → found ≡ under q es → get maps q ≡ option_map filled found
map_found q es maps found view is = ap (λ (m : Maps). get m q) (sym view) ∙ get_shelved q es ∙ ap (option_map filled) (sym is)

pub name_found : {A : Type 0} (q : List ℕ) (es : List (String A × Slots)) (maps : Maps) → from_entries (shelved es) ≡ maps → is_some (under q es) ≡ contains_key maps q
name_found q es maps view =
    let some_filled : is_some (option_map filled (under q es)) ≡ is_some (under q es) = elim (under q es) as (λ o. is_some (option_map filled o) ≡ is_some o) [ None ↦ refl | Some x ↦ refl ] in
    sym some_filled ∙ ap is_some (sym (map_found q es maps (under q es) view refl))

same_test : (name q : List ℕ) → bytes_eq name q ≡ eq_by_cmp (slice_cmp nat_cmp) q name
same_test name q = sym (is_eq-slice_cmp name q) ∙ (eq_by_cmp_equiv nat_list_cmp_total).symm name q

-- the maps after a write under a name
pub maps_after_write : {A : Type 0} (name : List ℕ) (m n : BTreeMap (String A) Slots) (w : Slots) → UpdatesBy string_cmp (λ k. slice_cmp nat_cmp name (string_bytes k)) m n (Some w) → from_entries {R = slice_cmp nat_cmp} (shelved n.entries) ≡ insert (from_entries (shelved m.entries)) name (filled w)
maps_after_write name m n w u = same_map nat_list_cmp_total exact_bytes _ _ (λ q.
    get_shelved q n.entries ∙ ap (option_map filled) (btree_map_updates_text name m n (Some w) u q ∙ ap (λ (b : Bool). cond b (Some w) (under q m.entries)) (same_test name q))
    ∙ (elim (eq_by_cmp (slice_cmp nat_cmp) q name) as (λ b. option_map filled (cond b (Some w) (under q m.entries)) ≡ cond b (Some (filled w)) (option_map filled (under q m.entries))) [ true ↦ refl | false ↦ refl ])
    ∙ ap (cond (eq_by_cmp (slice_cmp nat_cmp) q name) (Some (filled w))) (sym (get_shelved q m.entries))
    ∙ sym (get-insert nat_list_cmp_total (from_entries (shelved m.entries)) name (filled w) q))

-- the maps after a write through what a search by name lent
pub maps_after_set : {A : Type 0} (name : List ℕ) (m n : BTreeMap (String A) Slots) (maps : Maps) (w : Slots) → from_entries (shelved m.entries) ≡ maps → IsSome (under name m.entries) → UpdatesBy string_cmp (λ k. slice_cmp nat_cmp name (string_bytes k)) m n (Some w) → from_entries (shelved n.entries) ≡ with_map maps name (filled w)
maps_after_set name m n maps w view there u =
    let has : contains_key maps name ≡ true = sym (name_found name m.entries maps view) ∙ there in
    rw has (maps_after_write name m n w u ∙ ap (λ (s : Maps). insert s name (filled w)) view)

-- a name for which there is no room
pub maps_unset : {A : Type 0} (name : List ℕ) (es : List (String A × Slots)) (maps : Maps) (tables : Tables) → from_entries (shelved es) ≡ maps → under name es ≡ None → maps ≡ with_map maps name tables
maps_unset name es maps tables view none =
    let new : contains_key maps name ≡ false = sym (name_found name es maps view) ∙ ap is_some none in
    rw new refl

pub maps_room_made : (maps new : Maps) (name : List ℕ) → contains_key maps name ≡ false → new ≡ insert maps name empty → new ≡ with_room_for maps name
maps_room_made maps new name none is = rw none is

pub maps_room_there : (maps : Maps) (name : List ℕ) → contains_key maps name ≡ true → maps ≡ with_room_for maps name
maps_room_there maps name has = rw has refl
