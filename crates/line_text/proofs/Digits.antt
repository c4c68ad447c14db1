-- Which words are numbers, digit by digit.
use Rattle.std.proofs.Common.{◌≡◌, ℕ, zero, suc, ◌-◌, ◌<◌, true, false, not, eqb, List, [], ◌∷◌, length, get_or, Some, None, refl, arith}
use Rattle.std.specs.Char.{is_ascii_digit, digit_value}
use Rattle.std.specs.Int.{IsInRange}
use Rattle.std.specs.Str.{all_ascii_digits}
use Rattle.std.specs.Str.Parse.{digits_value}
use Rattle.std.proofs.lemmas.Bool.{and_parts, and_from, and_left, and_right, leb-true, ne_eqb, eq-eqb, not_from_false}
use Rattle.std.proofs.lemmas.Str.{digit_value_digit}
use Rattle.line_text.specs.Numbers.{number_of}

-- a decimal digit, and how far it is above `0`
pub digit_from_test : (c : ℕ) → is_ascii_digit c ≡ true → IsInRange 48 57 c
digit_from_test c e =
    let parts = and_parts _ _ e in
    (leb-true 48 c parts.0, leb-true c 57 parts.1)

pub digit_value-is : (c : ℕ) → is_ascii_digit c ≡ true → digit_value c ≡ c - 48
digit_value-is c e = omega (arith, digit_value_digit c (digit_from_test c e))

-- each of the first n bytes is a digit
abbrev pub DigitsBelow : ℕ → List ℕ → Type 0
DigitsBelow n word = (k : ℕ) → k < n → is_ascii_digit (get_or word k 0) ≡ true

all_ascii_digits-from_index : (word : List ℕ) → DigitsBelow (length word) word → all_ascii_digits word ≡ true
all_ascii_digits-from_index [] h = refl
all_ascii_digits-from_index (c ∷ cs) h =
    and_from (is_ascii_digit c) (all_ascii_digits cs) (h 0 (omega arith)) (all_ascii_digits-from_index cs (λ k lt. h (suc k) (omega arith)))

all_ascii_digits-at : (word : List ℕ) (k : ℕ) → k < length word → is_ascii_digit (get_or word k 0) ≡ false → all_ascii_digits word ≡ false
all_ascii_digits-at [] k lt h = absurd (omega arith)
all_ascii_digits-at (c ∷ cs) zero lt h = and_left (is_ascii_digit c) (all_ascii_digits cs) h
all_ascii_digits-at (c ∷ cs) (suc k) lt h = and_right (is_ascii_digit c) (all_ascii_digits cs) (all_ascii_digits-at cs k (omega arith) h)

pub number_of-empty : (word : List ℕ) → length word ≡ 0 → number_of word ≡ None
number_of-empty [] e = refl
number_of-empty (c ∷ cs) e = absurd (omega arith)

pub number_of-zero_first : (word : List ℕ) → 1 < length word → get_or word 0 0 ≡ 48 → number_of word ≡ None
number_of-zero_first [] long zero_first = absurd (omega arith)
number_of-zero_first (c ∷ []) long zero_first = absurd (omega arith)
number_of-zero_first (c ∷ d ∷ cs) long zero_first = rw (eq-eqb c 48 zero_first) refl

pub number_of-other : (word : List ℕ) (k : ℕ) → k < length word → is_ascii_digit (get_or word k 0) ≡ false → number_of word ≡ None
number_of-other [] k lt h = absurd (omega arith)
number_of-other (c ∷ []) zero lt h = rw h refl
number_of-other (c ∷ []) (suc k) lt h = absurd (omega arith)
number_of-other (c ∷ d ∷ cs) k lt h = rw (and_right (not (eqb c 48)) (all_ascii_digits (c ∷ d ∷ cs)) (all_ascii_digits-at (c ∷ d ∷ cs) k lt h)) refl

pub number_of-digits : (word : List ℕ) → 0 < length word → (1 < length word → get_or word 0 0 ≡ 48 → ⊥) → DigitsBelow (length word) word → number_of word ≡ Some (digits_value 10 word)
number_of-digits [] some first digits = absurd (omega arith)
number_of-digits (c ∷ []) some first digits = rw (digits 0 (omega arith)) refl
number_of-digits (c ∷ d ∷ cs) some first digits =
    rw (and_from (not (eqb c 48)) (all_ascii_digits (c ∷ d ∷ cs)) (not_from_false (eqb c 48) (ne_eqb c 48 (first (omega arith)))) (all_ascii_digits-from_index (c ∷ d ∷ cs) digits)) refl
