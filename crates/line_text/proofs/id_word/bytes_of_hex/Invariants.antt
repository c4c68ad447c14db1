use Rattle.std.proofs.Common.{◌≡◌, ◌*◌, ◌++◌, take, drop, length}
use Rattle.line_text.specs.IdWords.{bytes_of_hex}
use Rattle.line_text.proofs.id_word.bytes_of_hex.Given as goal

abbrev pub invariant-loop-place : goal.invariant-loop-place
invariant-loop-place l = record {
  long : length l.bytes ≡ 32;
  whole : take l.place l.bytes ++ bytes_of_hex (drop (2 * l.place) l.word) ≡ bytes_of_hex l.word;
}
