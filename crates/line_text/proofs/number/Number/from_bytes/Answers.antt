use Rattle.std.proofs.Common.{◌≡◌, ℕ, ◌<◌, Some, length, get_or, take, refl, sym, ap, ◌∙◌, arith, below_more}
use Rattle.std.specs.Str.Parse.{digits_value}
use Rattle.std.proofs.lemmas.Bool.{both_ways, eqb-false}
use Rattle.std.proofs.lemmas.List.{take_all}
use Rattle.std.proofs.lemmas.Int.Digits.{digits_value_more}
use Rattle.line_text.specs.declared.number.Number.{Number}
use Rattle.line_text.specs.Numbers.{in_64_bits}
use Rattle.line_text.proofs.Digits.{digit_value-is, number_of-other, number_of-digits}
use Rattle.line_text.proofs.number.Number.from_bytes.Goals as goal

pub returns-then-not-is_ascii_digit : goal.returns-then-not-is_ascii_digit
returns-then-not-is_ascii_digit c =
    let other = number_of-other c.args.word.now c.loop-c.c-index c.loop-c-test.true (sym c.is_ascii_digit.ensures.value ∙ c.if-not-is_ascii_digit.true) in
    rw other refl

pub loop-c-preserved : goal.loop-c-preserved
loop-c-preserved c =
    let word = c.args.word.now in
    let digit = sym c.is_ascii_digit.ensures.value ∙ c.if-not-is_ascii_digit.false in
    let longer = digits_value_more 10 word c.loop-c.c-index c.loop-c-test.true in
    let value = digit_value-is (get_or word c.loop-c.c-index 0) digit in
    record {
      digits = below_more _ _ c.loop-c.invariant.digits digit;
      value = rw (longer, value) (c.with_digit-number.ensures _ c.loop-c.invariant.value);
    }

pub returns : goal.returns
returns c =
    let word = c.args.word.now in
    let some : 0 < length c.args.word.now = omega (arith, eqb-false (length c.args.word.now) 0 (sym c.is_empty.ensures ∙ c.if-is_empty.false)) in
    let first : 1 < length c.args.word.now → get_or c.args.word.now 0 0 ≡ 48 → ⊥ =
    λ long zero_first. both_ways c.has_leading_zero.result c.if-has_leading_zero.false (c.has_leading_zero.ensures.1 (long, zero_first)) in
    let all : c.loop-c.c-index ≡ length c.args.word.now = omega arith in
    let whole : digits_value 10 (take c.loop-c.c-index c.args.word.now) ≡ digits_value 10 c.args.word.now = ap (λ (n : ℕ). digits_value 10 (take n word)) all ∙ ap (digits_value 10) (take_all (length word) word (omega arith)) in
    let number = number_of-digits word some first (λ k lt. c.loop-c.invariant.digits k (omega arith)) in
    rw number (ap (λ (n : Number). Some n) (c.loop-c.invariant.value ∙ ap in_64_bits whole))
