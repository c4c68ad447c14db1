-- The first item that passes a test, from a place on.
use Rattle.std.proofs.Common.{◌≡◌, ℕ, suc, ◌+◌, ◌<◌, Bool, true, false, Some, List, ◌∷◌, length, drop, get_or, arith, refl, sym, ap, ◌∙◌}
use Rattle.std.specs.List.{find}
use Rattle.std.proofs.Math.Seq.{drop-cons}

from_here : {X : Type 0} (xs : List X) (k : ℕ) (x : X) → k < length xs → x ≡ get_or xs k x → drop k xs ≡ x ∷ drop (k + 1) xs
from_here xs k x h is =
    let next : suc k ≡ k + 1 = omega arith in
    drop-cons xs k x h ∙ (ap (λ (y : _). y ∷ drop (suc k) xs) (sym is) ∙ ap (λ j. x ∷ drop j xs) next)

pub find_here : {X : Type 0} (test : X → Bool) (xs : List X) (k : ℕ) (x : X) → k < length xs → x ≡ get_or xs k x → test x ≡ true → find test (drop k xs) ≡ find test xs → Some x ≡ find test xs
find_here test xs k x h is passes same =
    let here : find test (x ∷ drop (k + 1) xs) ≡ Some x = rw passes refl in
    sym here ∙ (ap (find test) (sym (from_here xs k x h is)) ∙ same)

pub find_on : {X : Type 0} (test : X → Bool) (xs : List X) (k : ℕ) (x : X) → k < length xs → x ≡ get_or xs k x → test x ≡ false → find test (drop k xs) ≡ find test xs → find test (drop (k + 1) xs) ≡ find test xs
find_on test xs k x h is fails same =
    let on : find test (x ∷ drop (k + 1) xs) ≡ find test (drop (k + 1) xs) = rw fails refl in
    sym on ∙ (ap (find test) (sym (from_here xs k x h is)) ∙ same)
