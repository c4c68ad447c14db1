-- Changes put one behind another.
use Rattle.std.proofs.Common.{◌≡◌, List, [], ◌∷◌, ◌++◌, ap, ◌∙◌, append_assoc}
use Rattle.keeper_core.specs.declared.change.Change.{Change}

pub two_put : (old one two : List Change) (x y : Change) → one ≡ old ++ x ∷ [] → two ≡ one ++ y ∷ [] → two ≡ old ++ x ∷ y ∷ []
two_put old one two x y first second = second ∙ ap (λ (b : List Change). b ++ y ∷ []) first ∙ append_assoc old (x ∷ []) (y ∷ [])

pub three_put : (old one two three : List Change) (x y z : Change) → one ≡ old ++ x ∷ [] → two ≡ one ++ y ∷ [] → three ≡ two ++ z ∷ [] → three ≡ old ++ x ∷ y ∷ z ∷ []
three_put old one two three x y z first second third =
    third ∙ ap (λ (b : List Change). b ++ z ∷ []) (two_put old one two x y first second) ∙ append_assoc old (x ∷ y ∷ []) (z ∷ [])
