-- What is noted at each key once a sum is set.
use Rattle.std.proofs.Common.{◌≡◌, ℕ, ◌+◌, Bool, true, false, ◌&&◌, List, cond, refl, ap, sym, ◌∙◌}
use Rattle.std.specs.declared.cmp.Ordering.{Ordering}
use Rattle.std.specs.declared.cmp.Ordering.TheVariants.{Less, Equal, Greater}
use Rattle.std.specs.Ordering.{nat_cmp, is_eq, ordering_then}
use Rattle.std.specs.Cmp.Lexicographic.{slice_cmp}
use Rattle.std.specs.Str.{bytes_eq}
use Rattle.std.proofs.lemmas.Bool.Decides.{same_from_decides}
use Rattle.std.proofs.lemmas.Map.Text.{is_eq-slice_cmp}
use Rattle.std.proofs.lemmas.Slice.Eq.{bytes_eq-Decides}
use Rattle.dh_base.specs.declared.id.Id.{Id}
use Rattle.dh_base.specs.Ids.{same_id}
use Rattle.dh_base.proofs.SameIds.{same_id-swap}
use Rattle.escrow_book.specs.Noted.{name_cmp, deal_cmp, saturated}
use Rattle.escrow_book.proofs.Same.{at_same_pair}

names-swap : (x y : List ℕ) → bytes_eq x y ≡ bytes_eq y x
names-swap x y = same_from_decides (bytes_eq x y) (bytes_eq y x) (bytes_eq-Decides x y) (λ e. sym ((bytes_eq-Decides y x).0 e), λ e. (bytes_eq-Decides y x).1 (sym e))

pub name_test : (x y : List ℕ) → is_eq (name_cmp x y) ≡ bytes_eq y x
name_test x y = is_eq-slice_cmp x y ∙ names-swap x y

both_equal : (o p : Ordering) → is_eq (ordering_then o p) ≡ (is_eq o && is_eq p)
both_equal Less p = refl
both_equal Equal p = refl
both_equal Greater p = refl

pub deal_test : (d e : Id) (x y : List ℕ) → is_eq (deal_cmp (d, x) (e, y)) ≡ (same_id e d && bytes_eq y x)
deal_test d e x y =
    both_equal (slice_cmp nat_cmp d.0 e.0) (slice_cmp nat_cmp x y) ∙ (ap (λ b. b && is_eq (slice_cmp nat_cmp x y)) (is_eq-slice_cmp d.0 e.0 ∙ same_id-swap d e) ∙ ap (λ b. same_id e d && b) (name_test x y))

-- a sum that is noted anew of one key
pub noted_anew : (noted : Id → List ℕ → ℕ) (d e : Id) (x y : List ℕ) (sum more : ℕ) → sum ≡ saturated (noted e y + more) → cond (same_id d e && bytes_eq x y) sum (noted d x) ≡ cond (same_id d e && bytes_eq x y) (saturated (noted d x + more)) (noted d x)
noted_anew noted d e x y sum more is = at (same_id d e && bytes_eq x y) refl
  where
    at : (b : Bool) → (same_id d e && bytes_eq x y) ≡ b → cond b sum (noted d x) ≡ cond b (saturated (noted d x + more)) (noted d x)
    at true same = at_same_pair d e x y (λ i z. sum ≡ saturated (noted i z + more)) same is
    at false other = refl
