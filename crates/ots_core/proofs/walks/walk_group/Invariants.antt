use Rattle.std.proofs.Common.{◌≡◌, ◌≢◌, ℕ, [], ◌<◌, ◌≤◌, ◌+◌, ◌*◌, length, slice_index, slice_index_or}
use Rattle.ots_core.specs.Chains.{chain}
use Rattle.ots_core.specs.Walks.{place_of}
use Rattle.ots_core.proofs.walks.walk_group.Given as goal

abbrev pub invariant-loop-j : goal.invariant-loop-j
invariant-loop-j l = record {
  places : length l.values ≡ 67;
  walked : (k : ℕ) → l.group.first ≤ k → k < l.j → place_of l.ways.from l.ways.to (slice_index l.group.chains k) < 67 * (l.steps + 1)
      → slice_index_or l.values (slice_index l.group.chains k) []
      ≡ chain l.key.ident l.key.q (slice_index l.group.chains k) (slice_index l.ways.from (slice_index l.group.chains k)) (slice_index l.ways.to (slice_index l.group.chains k)) (slice_index_or l.fn.values (slice_index l.group.chains k) []);
  others : (i : ℕ) → ((k : ℕ) → l.group.first ≤ k → k < l.j → slice_index l.group.chains k ≢ i) → slice_index_or l.values i [] ≡ slice_index_or l.fn.values i [];
}
