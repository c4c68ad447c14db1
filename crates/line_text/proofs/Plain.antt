-- Words and lines in which neither a space nor a line feed stands.
use Rattle.std.proofs.Common.{◌≡◌, ℕ, ◌^◌, ◌<◌, ◌≤◌, true, not, ◌||◌, eqb, leb, List, [], ◌∷◌, refl, ◌∙◌, arith, ⊎_elim, IsTrue}
use Rattle.std.specs.List.{list_all, AllByRecursion}
use Rattle.std.specs.Char.{is_ascii_digit}
use Rattle.std.specs.Str.{all_ascii_digits}
use Rattle.std.specs.Fmt.{decimal}
use Rattle.std.proofs.lemmas.Bool.{and_parts, and_from, or_cases, leb-true, eqb-true, ne_eqb, not_from_false}
use Rattle.std.proofs.lemmas.List.Folds.{list_all-append}
use Rattle.std.proofs.lemmas.Fmt.{digits_decimal}
use Rattle.dh_base.specs.Names.{is_letter, is_digit, is_name_byte, begins_with_letter, is_name}
use Rattle.line_text.specs.Bytes.{lacks}
use Rattle.line_text.specs.Words.{spelled_words}
use Rattle.line_text.proofs.Digits.{digit_from_test}
use Rattle.line_text.proofs.Decimals.{digits_model}

other_byte : (c byte : ℕ) → (c ≡ byte → ⊥) → not (eqb c byte) ≡ true
other_byte c byte differs = not_from_false (eqb c byte) (ne_eqb c byte differs)

lacks-digits : (byte : ℕ) (word : List ℕ) → byte < 48 → all_ascii_digits word ≡ true → IsTrue (lacks byte word)
lacks-digits byte [] low h = refl
lacks-digits byte (c ∷ cs) low h =
    let parts = and_parts (is_ascii_digit c) (all_ascii_digits cs) h in
    let range = digit_from_test c parts.0 in
    and_from (not (eqb c byte)) (lacks byte cs) (other_byte c byte (λ same. omega arith)) (lacks-digits byte cs low parts.1)

pub lacks-decimal : (n : ℕ) → n < 2 ^ 64 → IsTrue (lacks 32 (decimal n)) × IsTrue (lacks 10 (decimal n))
lacks-decimal n small =
    let digits = digits_decimal digits_model n small in
    (lacks-digits 32 (decimal n) (omega arith) digits, lacks-digits 10 (decimal n) (omega arith) digits)

name_byte_above : (c : ℕ) → is_name_byte c ≡ true → 45 ≤ c
name_byte_above c e =
    ⊎_elim
    (λ (h : is_letter c ≡ true). omega (arith, leb-true 97 c (and_parts (leb 97 c) (leb c 122) h).0))
    (λ (h : (is_digit c || eqb c 45) ≡ true).
    ⊎_elim
    (λ (d : is_digit c ≡ true). omega (arith, leb-true 48 c (and_parts (leb 48 c) (leb c 57) d).0))
    (λ (d : eqb c 45 ≡ true). omega (arith, eqb-true c 45 d))
    (or_cases (is_digit c) (eqb c 45) h))
    (or_cases (is_letter c) (is_digit c || eqb c 45) e)

lacks-name_bytes : (byte : ℕ) (word : List ℕ) → byte < 45 → list_all is_name_byte word ≡ true → IsTrue (lacks byte word)
lacks-name_bytes byte [] low h = refl
lacks-name_bytes byte (c ∷ cs) low h =
    let parts = and_parts (is_name_byte c) (list_all is_name_byte cs) h in
    let above = name_byte_above c parts.0 in
    and_from (not (eqb c byte)) (lacks byte cs) (other_byte c byte (λ same. omega arith)) (lacks-name_bytes byte cs low parts.1)

pub lacks-name : (word : List ℕ) → IsTrue (is_name word) → IsTrue (lacks 32 word) × IsTrue (lacks 10 word)
lacks-name word h =
    let bytes = (and_parts (list_all is_name_byte word) _ (and_parts (begins_with_letter word) _ h).1).0 in
    (lacks-name_bytes 32 word (omega arith) bytes, lacks-name_bytes 10 word (omega arith) bytes)

pub lacks-spelled_words : (words : List (List ℕ)) → AllByRecursion (λ word. IsTrue (lacks 10 word)) words → IsTrue (lacks 10 (spelled_words words))
lacks-spelled_words [] h = refl
lacks-spelled_words (word ∷ []) h = h.0
lacks-spelled_words (word ∷ next ∷ words) h =
    list_all-append (λ c. not (eqb c 10)) word (32 ∷ spelled_words (next ∷ words)) ∙ and_from (lacks 10 word) (lacks 10 (spelled_words (next ∷ words))) h.0 (lacks-spelled_words (next ∷ words) h.1)
