use Rattle.std.proofs.Common.{◌≡◌, ℕ, List, ◌++◌, length}
use Rattle.std.specs.Prelude.{option_map}
use Rattle.house_words.specs.WordKinds.{hex_pairs}
use Rattle.house_words.proofs.word_kinds.hex_pairs.Given as goal

abbrev pub invariant-loop-rest : goal.invariant-loop-rest
invariant-loop-rest l = option_map (λ (behind : List ℕ). l.bytes.items ++ behind) (hex_pairs l.rest) ≡ hex_pairs l.word

abbrev pub decreases-loop-rest : goal.decreases-loop-rest
decreases-loop-rest l = length l.rest
