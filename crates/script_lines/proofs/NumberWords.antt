-- What the reader of numbers of 32 bits takes, and that it takes again what was spelled.
use Rattle.std.proofs.Common.{◌≡◌, ℕ, ◌<◌, ◌^◌, Bool, true, false, cond, ltb, Option, Some, None, List, [], ◌∷◌, refl, ap, subst, ◌∙◌, arith}
use Rattle.std.proofs.lemmas.Bool.{ltb-true, ltb-false, lt-ltb, le-ltb}
use Rattle.line_text.specs.Numbers.{number_of, in_32_bits}
use Rattle.line_text.specs.Reading.{number_u32_word}
use Rattle.line_text.proofs.Decimals.{number_of-decimal, decimal-number_of}
use Rattle.line_text.proofs.WordReading.{Words, bind_some, some_is}
use Rattle.script_lines.specs.WordLists.{SpellsNumber}

number_32 : (w : List ℕ) (n : ℕ) → number_of w ≡ Some n → SpellsNumber (in_32_bits n) w
number_32 w n e = by_size (ltb n (2 ^ 32)) refl
  where
    by_size : (b : Bool) → ltb n (2 ^ 32) ≡ b → SpellsNumber (cond b (Some n) None) w
    by_size true h =
        let small : n < 2 ^ 32 = ltb-true n (2 ^ 32) h in
        (small, decimal-number_of w n e (omega arith))
    by_size false h = (n, ltb-false n (2 ^ 32) h, e)

pub number_taken : (ws : Words) (x : Option ℕ × Words) → number_u32_word ws ≡ Some x → (w : List ℕ) × (ws ≡ w ∷ x.1) × SpellsNumber x.0 w
unfolding number_u32_word
number_taken [] x e = absurd cc
number_taken (w ∷ ws) x e =
    let a = bind_some (number_of w) (λ n. Some (in_32_bits n, ws)) x e in
    let whole : (in_32_bits a.0, ws) ≡ x = some_is (in_32_bits a.0, ws) x a.2 in
    let taken = subst (λ (p : Option ℕ × Words). (w ∷ ws ≡ w ∷ p.1) × SpellsNumber p.0 w) whole (refl, number_32 w a.0 a.1) in
    (w, taken.0, taken.1)

pub number_again : (o : Option ℕ) (w : List ℕ) (rest : Words) → SpellsNumber o w → number_u32_word (w ∷ rest) ≡ Some (o, rest)
unfolding number_u32_word
number_again None w rest h = rw (h.2, le-ltb h.0 (2 ^ 32) h.1) refl
number_again (Some n) w rest h =
    let read : number_of w ≡ Some n = ap number_of h.1 ∙ number_of-decimal n (omega arith) in
    rw (read, lt-ltb n (2 ^ 32) h.0) refl
