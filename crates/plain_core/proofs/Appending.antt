-- One piece more of a text.
use Rattle.std.proofs.Common.{◌≡◌, ℕ, ◌+◌, ◌<◌, List, [], ◌∷◌, ◌++◌, length, take, get_or, Result, OnOk, sym, ap, subst, ◌∙◌}
use Rattle.std.specs.List.{flat_map}
use Rattle.std.proofs.lemmas.List.{take_more, flat_map_more, append-nil}

pub appended_same : {T E : Type 0} (r : Result T E) (new old a b : List ℕ) → a ≡ b → OnOk r (new ≡ old ++ a) → OnOk r (new ≡ old ++ b)
appended_same r new old a b same h = subst (λ (text : List ℕ). OnOk r (new ≡ old ++ text)) same h

pub appended_none : (old text : List ℕ) → [] ≡ text → old ≡ old ++ text
appended_none old text none = sym (append-nil old) ∙ ap (λ (t : List ℕ). old ++ t) none

-- the texts of the items so far, and then that of the item at a place
pub appended_item : {X : Type 0} (text : X → List ℕ) (new mid old : List ℕ) (xs : List X) (i : ℕ) (x : X) → i < length xs → x ≡ get_or xs i x → mid ≡ old ++ flat_map text (take i xs) → new ≡ mid ++ text x → new ≡ old ++ flat_map text (take (i + 1) xs)
appended_item {X} text new mid old xs i x less here so_far next =
    let taken : take i xs ++ x ∷ [] ≡ take (i + 1) xs = ap (λ (y : X). take i xs ++ y ∷ []) here ∙ sym (take_more xs i x less) in
    next ∙ (ap (λ (t : List ℕ). t ++ text x) so_far ∙ (flat_map_more text old (take i xs) x ∙ ap (λ (ys : List X). old ++ flat_map text ys) taken))
