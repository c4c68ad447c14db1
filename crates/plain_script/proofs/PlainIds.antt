-- Different names have different plain ids.
use Rattle.std.proofs.Common.{◌≡◌, ℕ, ◌-◌, List, [], ◌∷◌, ◌++◌, length, replicate, refl, ap, arith}
use Rattle.std.specs.Str.{bytes_eq}
use Rattle.std.proofs.lemmas.Slice.Eq.{bytes_eq-Decides}
use Rattle.std.proofs.lemmas.Bool.Decides.{same_from_decides}
use Rattle.dh_base.specs.declared.id.Id.{Id}
use Rattle.dh_base.specs.Ids.{same_id}
use Rattle.dh_base.proofs.SameIds.{same_id-Decides}
use Rattle.plain_script.specs.Ids.{plain_id}

heads_same : (x y : ℕ) (xs ys : List ℕ) → x ∷ xs ≡ y ∷ ys → x ≡ y
heads_same x y xs ys e = cc

tails_same : (x y : ℕ) (xs ys : List ℕ) → x ∷ xs ≡ y ∷ ys → xs ≡ ys
tails_same x y xs ys e = cc

-- the fronts of two equal lists are the same where they are as long
fronts_same : (a b r s : List ℕ) → length a ≡ length b → a ++ r ≡ b ++ s → a ≡ b
fronts_same [] [] r s l e = refl
fronts_same [] (y ∷ b) r s l e = absurd (omega (arith, l))
fronts_same (x ∷ a) [] r s l e = absurd (omega (arith, l))
fronts_same (x ∷ a) (y ∷ b) r s l e =
    let rest : a ≡ b = fronts_same a b r s (omega (arith, l)) (tails_same x y (a ++ r) (b ++ s) e) in
    let first : x ≡ y = heads_same x y (a ++ r) (b ++ s) e in
    cc

pub plain_id_same : (a b : List ℕ) → plain_id a ≡ plain_id b → a ≡ b
plain_id_same a b e =
    let bytes : length a ∷ (a ++ replicate (31 - length a) 0) ≡ length b ∷ (b ++ replicate (31 - length b) 0) = ap (λ (id : Id). id.0) e in
    fronts_same a b _ _ (heads_same (length a) (length b) _ _ bytes) (tails_same (length a) (length b) _ _ bytes)

pub same_plain_id : (a b : List ℕ) → same_id (plain_id a) (plain_id b) ≡ bytes_eq a b
same_plain_id a b =
    same_from_decides (same_id (plain_id a) (plain_id b)) (bytes_eq a b) (same_id-Decides (plain_id a) (plain_id b))
    (λ e. ap plain_id ((bytes_eq-Decides a b).0 e), λ e. (bytes_eq-Decides a b).1 (plain_id_same a b e))
