-- How ids and outcomes are written.
use Rattle.std.specs.Prelude.{ℕ, List, [], ◌∷◌, ◌/◌, ◌%◌, codes, false}
use Rattle.std.specs.List.{flat_map}
use Rattle.std.specs.Fmt.{digit_glyph}
use Rattle.dh_base.specs.declared.outcome.Outcome.{Outcome}
use Rattle.dh_base.specs.declared.outcome.Outcome.TheVariants.{Commit, Abort}

abbrev pub outcome_text : Outcome → List ℕ
outcome_text Commit = codes "commit"
outcome_text Abort = codes "abort"

-- the two lower-case hexadecimal digits of a byte
abbrev pub hex_byte : ℕ → List ℕ
hex_byte byte = digit_glyph false (byte / 16) ∷ digit_glyph false (byte % 16) ∷ []

abbrev pub hex_text : List ℕ → List ℕ
hex_text bytes = flat_map hex_byte bytes
