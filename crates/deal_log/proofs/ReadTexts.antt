-- What a text names is what its deal has, and texts are found by the bytes of their deals' ids.
use Rattle.std.proofs.Common.{◌≡◌, ℕ, true, false, cond, List, [], ◌∷◌, Option, Some, None, refl, sym, ap, ◌∙◌}
use Rattle.std.specs.Ordering.{is_eq, eq_by_cmp, nat_cmp}
use Rattle.std.specs.declared.cmp.Ordering.{Ordering}
use Rattle.std.specs.Cmp.Lexicographic.{slice_cmp, nat_list_cmp_total}
use Rattle.std.specs.Map.{lookup}
use Rattle.std.specs.Str.{bytes_eq}
use Rattle.std.specs.BTreeMap.{BTreeMap, UpdatesBy, is_at}
use Rattle.std.specs.FinMap.{get, insert, remove, from_entries, find, get-from_entries, get-insert, get-remove, same_map}
use Rattle.std.proofs.lemmas.Map.Lookups.{exact_bytes}
use Rattle.std.proofs.lemmas.Map.Text.{is_eq-slice_cmp}
use Rattle.dh_base.specs.declared.id.Id.{Id}
use Rattle.deal_core.specs.Deals.{DealTold}
use Rattle.deal_core.specs.Reading.{IsTextOf}
use Rattle.vote_log.proofs.Ids.{bytes_eq-sym}
use Rattle.deal_log.specs.DealTexts.{TextMap, by_bytes, house_of, house_in, parties_of, parties_in}

pub house_read : (text : List ℕ) (deal : DealTold) → IsTextOf deal text → house_in text ≡ Some deal.house
unfolding house_in
house_read text deal is = ap house_of is.read

pub parties_read : (text : List ℕ) (deal : DealTold) → IsTextOf deal text → parties_in text ≡ deal.parties
unfolding parties_in
parties_read text deal is = ap parties_of is.read

-- ---- the map of texts

-- ids go by their bytes
abbrev id_cmp : Id → Id → Ordering
id_cmp a b = slice_cmp nat_cmp a.0 b.0

-- what stands at the id with these bytes
abbrev at_bytes : {A : Type 0} → List ℕ → List (Id × A) → Option A
at_bytes q es = lookup (is_at (λ k. slice_cmp nat_cmp q k.0)) es

find_bytes : {A : Type 0} (q : List ℕ) (es : List (Id × A)) → find (slice_cmp nat_cmp) q (by_bytes es) ≡ at_bytes q es
find_bytes q [] = refl
find_bytes {A} q (e ∷ es) =
    elim (is_eq (slice_cmp nat_cmp q e.0.0)) as (λ b. cond b (Some e.1) (find (slice_cmp nat_cmp) q (by_bytes es)) ≡ cond b (Some e.1) (at_bytes q es)) [ true ↦ refl | false ↦ find_bytes q es ]

pub get_bytes : {A : Type 0} (q : List ℕ) (es : List (Id × A)) → get (from_entries {R = slice_cmp nat_cmp} (by_bytes es)) q ≡ at_bytes q es
get_bytes q es = get-from_entries nat_list_cmp_total (by_bytes es) q ∙ find_bytes q es

same_test : (deal other : Id) → is_eq (slice_cmp nat_cmp deal.0 other.0) ≡ eq_by_cmp (slice_cmp nat_cmp) other.0 deal.0
same_test deal other =
    is_eq-slice_cmp deal.0 other.0 ∙ (sym (bytes_eq-sym deal other (bytes_eq deal.0 other.0) refl) ∙ sym (is_eq-slice_cmp other.0 deal.0))

updated : {A : Type 0} (deal : Id) (q : List ℕ) (m n : BTreeMap Id A) (w : Option A) → UpdatesBy id_cmp (λ k. slice_cmp nat_cmp deal.0 k.0) m n w
    → at_bytes q n.entries ≡ cond (eq_by_cmp (slice_cmp nat_cmp) q deal.0) w (at_bytes q m.entries)
updated deal q m n w u =
    let other : Id = record { 0 = q } in
    u.0 other ∙ ap (λ b. cond b w (at_bytes q m.entries)) (same_test deal other)

pub put_bytes : (deal : Id) (m n : BTreeMap Id (List ℕ)) (text : List ℕ) (texts : TextMap) → UpdatesBy id_cmp (λ k. slice_cmp nat_cmp deal.0 k.0) m n (Some text)
    → from_entries (by_bytes m.entries) ≡ texts → from_entries {R = slice_cmp nat_cmp} (by_bytes n.entries) ≡ insert texts deal.0 text
put_bytes deal m n text texts u view =
    same_map nat_list_cmp_total exact_bytes _ _ (λ q.
    get_bytes q n.entries ∙ (updated deal q m n (Some text) u
    ∙ (ap (cond (eq_by_cmp (slice_cmp nat_cmp) q deal.0) (Some text)) (sym (get_bytes q m.entries) ∙ ap (λ (t : TextMap). get t q) view)
    ∙ sym (get-insert nat_list_cmp_total texts deal.0 text q))))

pub remove_bytes : (deal : Id) (m n : BTreeMap Id (List ℕ)) (texts : TextMap) → UpdatesBy id_cmp (λ k. slice_cmp nat_cmp deal.0 k.0) m n None
    → from_entries (by_bytes m.entries) ≡ texts → from_entries {R = slice_cmp nat_cmp} (by_bytes n.entries) ≡ remove texts deal.0
remove_bytes deal m n texts u view =
    same_map nat_list_cmp_total exact_bytes _ _ (λ q.
    get_bytes q n.entries ∙ (updated deal q m n None u
    ∙ (ap (cond (eq_by_cmp (slice_cmp nat_cmp) q deal.0) None) (sym (get_bytes q m.entries) ∙ ap (λ (t : TextMap). get t q) view)
    ∙ sym (get-remove nat_list_cmp_total texts deal.0 q))))
