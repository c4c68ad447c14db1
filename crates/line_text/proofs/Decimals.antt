-- A number's one spelling is its decimal digits.
use Rattle.std.proofs.Common.{◌≡◌, ℕ, ◌^◌, ◌<◌, true, not, eqb, List, [], ◌∷◌, length, get_or, Some, inl, inr, refl, sym, ap, ◌∙◌, arith}
use Rattle.std.specs.Char.{is_ascii_digit}
use Rattle.std.specs.Str.{all_ascii_digits}
use Rattle.std.specs.Str.Parse.{digits_value}
use Rattle.std.specs.Fmt.{decimal}
use Rattle.std.proofs.lemmas.Bool.{cases_lt, and_parts, and_from, eqb-false, not-true, ne_eqb, not_from_false}
use Rattle.std.proofs.lemmas.Option.{cond_some}
use Rattle.std.proofs.lemmas.Str.Parse.{IsNumeralModel, numerals_by_value, tells_all_ascii_digits}
use Rattle.std.proofs.lemmas.Fmt.{digits_decimal, digits_value-decimal, decimal-digits_value, decimal_nonempty, first_decimal, decimal_digit}
use Rattle.line_text.specs.Numbers.{is_number, number_of}

pub digits_model : IsNumeralModel (λ ds. all_ascii_digits ds ≡ true) (digits_value 10)
digits_model = numerals_by_value (λ ds. all_ascii_digits ds ≡ true) tells_all_ascii_digits

is_number-from_digits : (word : List ℕ) → all_ascii_digits word ≡ true → 0 < length word → (1 < length word → get_or word 0 0 ≡ 48 → ⊥) → is_number word ≡ true
is_number-from_digits [] digits some first = absurd (omega arith)
is_number-from_digits (c ∷ []) digits some first = (and_parts (is_ascii_digit c) true digits).0
is_number-from_digits (c ∷ d ∷ cs) digits some first =
    and_from (not (eqb c 48)) (all_ascii_digits (c ∷ d ∷ cs)) (not_from_false (eqb c 48) (ne_eqb c 48 (first (omega arith)))) digits

no_zero_first : (n : ℕ) → n < 2 ^ 64 → 1 < length (decimal n) → get_or (decimal n) 0 0 ≡ 48 → ⊥
no_zero_first n small long zero_first =
    elim (cases_lt 0 n) [
      | inl positive ↦ omega (arith, first_decimal n positive small)
      | inr none ↦ let one : length (decimal n) ≡ 1 = ap length (decimal_digit n (omega arith)) in omega arith
    ]

pub number_of-decimal : (n : ℕ) → n < 2 ^ 64 → number_of (decimal n) ≡ Some n
number_of-decimal n small =
    let number = is_number-from_digits (decimal n) (digits_decimal digits_model n small) (decimal_nonempty n small) (no_zero_first n small) in
    rw (number, digits_value-decimal digits_model n small) refl

pub record IsNumeral (word : List ℕ) : Type 0 where
  pub digits : all_ascii_digits word ≡ true
  pub some : 0 < length word
  pub first : get_or word 0 0 ≡ 48 → length word ≡ 1

is_number-parts : (word : List ℕ) → is_number word ≡ true → IsNumeral word
is_number-parts [] e = absurd cc
is_number-parts (c ∷ []) e = record { digits = and_from (is_ascii_digit c) true e refl; some = omega arith; first = λ zero_first. refl }
is_number-parts (c ∷ d ∷ cs) e =
    let parts = and_parts (not (eqb c 48)) (all_ascii_digits (c ∷ d ∷ cs)) e in
    record {
      digits = parts.1;
      some = omega arith;
      first = λ zero_first. absurd (eqb-false c 48 (not-true (eqb c 48) parts.0) zero_first);
    }

pub decimal-number_of : (word : List ℕ) (n : ℕ) → number_of word ≡ Some n → n < 2 ^ 64 → word ≡ decimal n
decimal-number_of word n e small =
    let number = cond_some (is_number word) (digits_value 10 word) n e in
    let parts = is_number-parts word number.0 in
    let few : digits_value 10 word < 2 ^ 64 = rw number.1 small in
    sym (decimal-digits_value digits_model word parts.digits parts.some parts.first few) ∙ ap decimal number.1
