use Rattle.std.proofs.Common.{◌≡◌, take}
use Rattle.std.specs.Str.Parse.{digits_value}
use Rattle.line_text.specs.Numbers.{in_64_bits}
use Rattle.line_text.proofs.Digits.{DigitsBelow}
use Rattle.line_text.proofs.number.Number.from_bytes.Given as goal

abbrev pub invariant-loop-c : goal.invariant-loop-c
invariant-loop-c l =
    record {
      digits : DigitsBelow l.c-index l.word;
      value : l.number ≡ in_64_bits (digits_value 10 (take l.c-index l.word));
    }
