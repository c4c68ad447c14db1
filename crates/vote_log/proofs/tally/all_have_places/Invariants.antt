use Rattle.std.proofs.Common.{◌≡◌, true}
use Rattle.vote_log.specs.Tallies.{all_placed}
use Rattle.vote_log.proofs.tally.all_have_places.Given as goal

abbrev pub invariant-loop-index : goal.invariant-loop-index
invariant-loop-index l = all_placed l.committed l.index ≡ true
