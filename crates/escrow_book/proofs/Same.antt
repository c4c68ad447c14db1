-- Equal names, and what holds of an account and an asset.
use Rattle.std.proofs.Common.{◌≡◌, ℕ, true, ◌&&◌, List, sym, subst}
use Rattle.std.specs.Str.{bytes_eq}
use Rattle.std.proofs.lemmas.Slice.Eq.{bytes_eq-Decides}
use Rattle.std.proofs.lemmas.Bool.{and_parts}
use Rattle.dh_base.specs.declared.id.Id.{Id}
use Rattle.dh_base.specs.Ids.{same_id}
use Rattle.dh_base.proofs.SameIds.{id_from_same}

pub name_from_same : (x y : List ℕ) → bytes_eq x y ≡ true → x ≡ y
name_from_same x y e = (bytes_eq-Decides x y).0 e

-- what holds of an account and an asset holds of the same account and the same asset
pub at_same_pair : (p q : Id) (x y : List ℕ) (P : Id → List ℕ → Type 0) → (same_id p q && bytes_eq x y) ≡ true → P q y → P p x
at_same_pair p q x y P e h =
    let both = and_parts (same_id p q) (bytes_eq x y) e in
    subst (λ (i : Id). P i x) (sym (id_from_same p q both.0)) (subst (P q) (sym (name_from_same x y both.1)) h)

-- the same with a deal
pub at_same_three : (d e p q : Id) (x y : List ℕ) (P : Id → Id → List ℕ → Type 0) → (same_id d e && (same_id p q && bytes_eq x y)) ≡ true → P e q y → P d p x
at_same_three d e p q x y P same h =
    let both = and_parts (same_id d e) (same_id p q && bytes_eq x y) same in
    subst (λ (i : Id). P i p x) (sym (id_from_same d e both.0)) (at_same_pair p q x y (P e) both.1 h)
