-- One text more behind those before it.
use Rattle.std.proofs.Common.{◌≡◌, ℕ, ◌+◌, ◌<◌, List, [], ◌∷◌, ◌++◌, length, take, get_or, sym, ap, ◌∙◌, append_assoc}
use Rattle.std.specs.List.{concat}
use Rattle.std.proofs.lemmas.List.{take_more, append-nil}
use Rattle.std.proofs.lemmas.List.Folds.{concat-append}

pub joins_more : (front : List ℕ) (texts : List (List ℕ)) (i : ℕ) (text so_far behind : List ℕ) → i < length texts → text ≡ get_or texts i text → so_far ≡ front ++ concat (take i texts) → behind ≡ so_far ++ text → behind ≡ front ++ concat (take (i + 1) texts)
joins_more front texts i text so_far behind less here is next =
    let taken : take (i + 1) texts ≡ take i texts ++ text ∷ [] = take_more texts i text less ∙ ap (λ (t : List ℕ). take i texts ++ t ∷ []) (sym here) in
    let joined : concat (take (i + 1) texts) ≡ concat (take i texts) ++ text = ap concat taken ∙ (concat-append (take i texts) (text ∷ []) ∙ ap (λ (t : List ℕ). concat (take i texts) ++ t) (append-nil text)) in
    next ∙ (ap (λ (t : List ℕ). t ++ text) is ∙ (append_assoc front (concat (take i texts)) text ∙ ap (λ (t : List ℕ). front ++ t) (sym joined)))
