use Rattle.std.proofs.Common.{◌≡◌, ℕ, [], ◌<◌, ◌≤◌, ◌+◌, ◌*◌, ◌^◌, min, slice_index, slice_index_or}
use Rattle.hash_lanes.specs.Texts.{value_at}
use Rattle.ots_core.specs.Chains.{chain}
use Rattle.ots_core.proofs.side_by_side.walk_eight.Given as goal

abbrev pub invariant-loop-turn : goal.invariant-loop-turn
invariant-loop-turn l = (j i a b : ℕ) → j < 8 → i < 2 ^ 16 → a ≤ b → b ≤ 256 → slice_index l.eight.from j ≡ 256 * i + a → slice_index l.eight.to j ≡ 256 * i + b
    → value_at l.values j ≡ chain l.key.ident l.key.q i a (min (a + l.turn) b) (slice_index_or l.start j [])
