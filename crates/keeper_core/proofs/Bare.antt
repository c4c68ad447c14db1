-- The slots of a table, read by their keys' bytes.
use Rattle.std.proofs.Common.{◌≡◌, ℕ, true, false, cond, List, [], ◌∷◌, Option, Some, None, refl, sym, ap, ◌∙◌, inl, inr}
use Rattle.std.specs.Option.{option_map, IsSome, is_some}
use Rattle.std.specs.declared.vec.Vec.{Vec}
use Rattle.std.specs.declared.cmp.Ordering.{Ordering}
use Rattle.std.specs.declared.cmp.Ordering.TheVariants.{Less, Equal, Greater}
use Rattle.std.specs.Ordering.{is_eq, eq_by_cmp, nat_cmp}
use Rattle.std.specs.Cmp.Lexicographic.{slice_cmp, nat_list_cmp_total}
use Rattle.std.specs.Map.{lookup, KeepsOthers}
use Rattle.std.specs.BTreeMap.{BTreeMap, UpdatesBy, is_at}
use Rattle.std.specs.FinMap.{get, contains_key, insert, from_entries, find, get-from_entries, get-insert, same_map}
use Rattle.std.proofs.lemmas.Bool.{cases_Bool}
use Rattle.std.proofs.lemmas.Map.Lookups.{exact_bytes}
use Rattle.keeper_core.specs.Slots.{Slot, TableSlots, held, with_room}
use Rattle.keeper_core.specs.Laying.{bare}

equal_by : (r : Ordering) → is_eq r ≡ true → r ≡ Equal
equal_by Less e = absurd cc
equal_by Equal e = refl
equal_by Greater e = absurd cc

-- a slot without where its bytes lie
abbrev pub bare_slot : {A : Type 0} → Option (Vec ℕ A) → Slot
bare_slot slot = option_map (λ v. v.items) slot

-- what stands at the key with these bytes
abbrev pub at_bytes : {A : Type 0} → List ℕ → List (Vec ℕ A × Option (Vec ℕ A)) → Option (Option (Vec ℕ A))
at_bytes q es = lookup (is_at (λ k. slice_cmp nat_cmp q k.items)) es

find_bare : {A : Type 0} (q : List ℕ) (es : List (Vec ℕ A × Option (Vec ℕ A))) → find (slice_cmp nat_cmp) q (bare es) ≡ option_map bare_slot (at_bytes q es)
find_bare q [] = refl
find_bare q (e ∷ es) =
    elim (is_eq (slice_cmp nat_cmp q e.0.items)) as (λ b. cond b (Some (bare_slot e.1)) (find (slice_cmp nat_cmp) q (bare es)) ≡ option_map bare_slot (cond b (Some e.1) (at_bytes q es))) [ true ↦ refl | false ↦ find_bare q es ]

pub get_bare : {A : Type 0} (q : List ℕ) (es : List (Vec ℕ A × Option (Vec ℕ A))) → get (from_entries {R = slice_cmp nat_cmp} (bare es)) q ≡ option_map bare_slot (at_bytes q es)
get_bare q es = get-from_entries nat_list_cmp_total (bare es) q ∙ find_bare q es

-- what a search by bytes found is what the slots have
pub slot_found : {A : Type 0} (q : List ℕ) (es : List (Vec ℕ A × Option (Vec ℕ A))) (slots : TableSlots) (found : Option (Option (Vec ℕ A))) → from_entries (bare es) ≡ slots → found ≡ at_bytes q es → get slots q ≡ option_map bare_slot found
slot_found q es slots found view is = ap (λ (s : TableSlots). get s q) (sym view) ∙ get_bare q es ∙ ap (option_map bare_slot) (sym is)

-- an update at the key with these bytes
updated : {A : Type 0} (key q : List ℕ) (m n : BTreeMap (Vec ℕ A) (Option (Vec ℕ A))) (w : Option (Option (Vec ℕ A))) → UpdatesBy (λ x y. slice_cmp nat_cmp x.items y.items) (λ k. slice_cmp nat_cmp key k.items) m n w → at_bytes q n.entries ≡ cond (eq_by_cmp (slice_cmp nat_cmp) q key) w (at_bytes q m.entries)
unfolding KeepsOthers
updated key q m n w u =
    elim (cases_Bool (eq_by_cmp (slice_cmp nat_cmp) q key)) [
      | inl same ↦
          let is : q ≡ key = exact_bytes q key (equal_by _ same) in
          rw same (ap (λ (k : List ℕ). at_bytes k n.entries) is ∙ u.1)
      | inr apart ↦ rw apart (u.3 (λ k. is_eq (slice_cmp nat_cmp q k.items))
          (λ x y e. ap is_eq (nat_list_cmp_total.congr q x.items y.items (equal_by _ e)))
          (λ k e. let same : key ≡ k.items = exact_bytes key k.items (equal_by _ e) in ap (λ (bs : List ℕ). is_eq (slice_cmp nat_cmp q bs)) (sym same) ∙ apart))
    ]

-- the slots after a write at a key
pub slots_after_write : {A : Type 0} (key : List ℕ) (m n : BTreeMap (Vec ℕ A) (Option (Vec ℕ A))) (w : Option (Vec ℕ A)) → UpdatesBy (λ x y. slice_cmp nat_cmp x.items y.items) (λ k. slice_cmp nat_cmp key k.items) m n (Some w) → from_entries {R = slice_cmp nat_cmp} (bare n.entries) ≡ insert (from_entries (bare m.entries)) key (bare_slot w)
slots_after_write key m n w u = same_map nat_list_cmp_total exact_bytes _ _ (λ q.
    get_bare q n.entries ∙ ap (option_map bare_slot) (updated key q m n (Some w) u)
    ∙ (elim (eq_by_cmp (slice_cmp nat_cmp) q key) as (λ b. option_map bare_slot (cond b (Some w) (at_bytes q m.entries)) ≡ cond b (Some (bare_slot w)) (option_map bare_slot (at_bytes q m.entries))) [ true ↦ refl | false ↦ refl ])
    ∙ ap (cond (eq_by_cmp (slice_cmp nat_cmp) q key) (Some (bare_slot w))) (sym (get_bare q m.entries))
    ∙ sym (get-insert nat_list_cmp_total (from_entries (bare m.entries)) key (bare_slot w) q))

pub has_found : {A : Type 0} (q : List ℕ) (es : List (Vec ℕ A × Option (Vec ℕ A))) (slots : TableSlots) → from_entries (bare es) ≡ slots → is_some (at_bytes q es) ≡ contains_key slots q
has_found q es slots view =
    let some_bare : is_some (option_map bare_slot (at_bytes q es)) ≡ is_some (at_bytes q es) = elim (at_bytes q es) as (λ o. is_some (option_map bare_slot o) ≡ is_some o) [ None ↦ refl | Some x ↦ refl ] in
    sym some_bare ∙ ap is_some (sym (slot_found q es slots (at_bytes q es) view refl))

pub room_made : (slots new : TableSlots) (key : List ℕ) → contains_key slots key ≡ false → new ≡ insert slots key None → new ≡ with_room slots key
room_made slots new key none is = rw none is

pub room_there : (slots : TableSlots) (key : List ℕ) → contains_key slots key ≡ true → slots ≡ with_room slots key
room_there slots key has = rw has refl

-- the slots without an empty one that stood at a key
pub held_after_prune : {A : Type 0} (key : List ℕ) (m n : BTreeMap (Vec ℕ A) (Option (Vec ℕ A))) → UpdatesBy (λ x y. slice_cmp nat_cmp x.items y.items) (λ k. slice_cmp nat_cmp key k.items) m n None → at_bytes key m.entries ≡ Some None → (q : List ℕ) → held (get (from_entries {R = slice_cmp nat_cmp} (bare n.entries)) q) ≡ held (get (from_entries {R = slice_cmp nat_cmp} (bare m.entries)) q)
held_after_prune key m n u empty q =
    let now = ap held (get_bare q n.entries ∙ ap (option_map bare_slot) (updated key q m n None u)) in
    let before = ap held (get_bare q m.entries) in
    now ∙ elim (cases_Bool (eq_by_cmp (slice_cmp nat_cmp) q key)) [
      | inl same ↦
          let is : q ≡ key = exact_bytes q key (equal_by _ same) in
          rw same (ap held (ap (option_map bare_slot) (sym empty ∙ ap (λ (k : List ℕ). at_bytes k m.entries) (sym is))))
      | inr apart ↦ rw apart refl
    ] ∙ sym before

-- the slots after a write through what a search by bytes lent
pub slots_after_set : {A : Type 0} (key : List ℕ) (m n : BTreeMap (Vec ℕ A) (Option (Vec ℕ A))) (slots : TableSlots) (w : Option (Vec ℕ A)) → from_entries (bare m.entries) ≡ slots → contains_key slots key ≡ true → (IsSome (at_bytes key m.entries) → UpdatesBy (λ x y. slice_cmp nat_cmp x.items y.items) (λ k. slice_cmp nat_cmp key k.items) m n (Some w)) → from_entries (bare n.entries) ≡ insert slots key (bare_slot w)
slots_after_set key m n slots w view has writes =
    slots_after_write key m n w (writes (has_found key m.entries slots view ∙ has)) ∙ ap (λ (s : TableSlots). insert s key (bare_slot w)) view

-- a key that has a slot is found
pub none_missed : {A : Type 0} (key : List ℕ) (es : List (Vec ℕ A × Option (Vec ℕ A))) (slots : TableSlots) → from_entries (bare es) ≡ slots → contains_key slots key ≡ true → at_bytes key es ≡ None → ⊥
none_missed key es slots view has none = let h = sym (ap is_some none) ∙ has_found key es slots view ∙ has in cc
