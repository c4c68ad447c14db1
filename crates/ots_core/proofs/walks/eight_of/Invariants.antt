use Rattle.std.proofs.Common.{◌≡◌, ℕ, ◌<◌, ◌+◌, ◌*◌, length, slice_index}
use Rattle.ots_core.proofs.walks.eight_of.Given as goal

abbrev pub invariant-loop-j : goal.invariant-loop-j
invariant-loop-j l = record {
  places_from : length l.eight.from ≡ 8;
  places_to : length l.eight.to ≡ 8;
  from : (k : ℕ) → k < l.j → slice_index l.eight.from k ≡ 256 * slice_index l.chains k + slice_index l.ways.from (slice_index l.chains k);
  to : (k : ℕ) → k < l.j → slice_index l.eight.to k ≡ 256 * slice_index l.chains k + slice_index l.ways.to (slice_index l.chains k);
}
