-- The texts of pairs, one after another.
use Rattle.std.proofs.Common.{◌≡◌, ℕ, suc, ◌+◌, ◌<◌, List, [], ◌∷◌, ◌++◌, length, take, get_or, arith, append_assoc, sym, ap, ◌∙◌}
use Rattle.std.specs.List.{flat_map}
use Rattle.std.proofs.Math.Seq.{take-suc}
use Rattle.std.proofs.lemmas.List.{append-nil}
use Rattle.std.proofs.lemmas.List.Concat.{flat_map-append}
use Rattle.clear_core.specs.declared.pair.Pair.{Pair}

pub text_more : (text : Pair → List ℕ) (pairs : List Pair) (k : ℕ) (pair : Pair) (start old new : List ℕ) → k < length pairs → pair ≡ get_or pairs k pair → old ≡ start ++ flat_map text (take k pairs) → new ≡ old ++ text pair → new ≡ start ++ flat_map text (take (k + 1) pairs)
text_more text pairs k pair start old new h is before grown =
    let next : suc k ≡ k + 1 = omega arith in
    let front : take (k + 1) pairs ≡ take k pairs ++ pair ∷ [] = ap (λ j. take j pairs) (sym next) ∙ (take-suc pairs k pair h ∙ ap (λ (p : Pair). take k pairs ++ p ∷ []) (sym is)) in
    let texts : flat_map text (take (k + 1) pairs) ≡ flat_map text (take k pairs) ++ text pair = ap (flat_map text) front ∙ (flat_map-append text (take k pairs) (pair ∷ []) ∙ ap (λ (bytes : List ℕ). flat_map text (take k pairs) ++ bytes) (append-nil (text pair))) in
    grown ∙ (ap (λ (bytes : List ℕ). bytes ++ text pair) before ∙ (append_assoc start (flat_map text (take k pairs)) (text pair) ∙ ap (λ (bytes : List ℕ). start ++ bytes) (sym texts)))

pub both_written : (old mid new first second : List ℕ) → mid ≡ old ++ first → new ≡ mid ++ second → new ≡ old ++ (first ++ second)
both_written old mid new first second e f = f ∙ (ap (λ (bytes : List ℕ). bytes ++ second) e ∙ append_assoc old first second)
