use Rattle.std.proofs.Common.{◌≡◌, ◌≤◌}
use Rattle.vote_log.specs.Tallies.{unplaced}
use Rattle.vote_log.proofs.tally.without_place.Given as goal

abbrev pub invariant-loop-index : goal.invariant-loop-index
invariant-loop-index l = record {
  value : l.count ≡ unplaced l.committed l.index;
  few : l.count ≤ l.index;
}
