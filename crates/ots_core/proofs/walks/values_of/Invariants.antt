use Rattle.std.proofs.Common.{◌≡◌, ℕ, [], ◌<◌, length, slice_index, slice_index_or}
use Rattle.ots_core.proofs.walks.values_of.Given as goal

abbrev pub invariant-loop-j : goal.invariant-loop-j
invariant-loop-j l = record {
  places : length l.held ≡ 8;
  copied : (k : ℕ) → k < l.j → slice_index_or l.held k [] ≡ slice_index_or l.values (slice_index l.chains k) [];
}
