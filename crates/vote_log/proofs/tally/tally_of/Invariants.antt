use Rattle.std.proofs.Common.{take}
use Rattle.vote_log.specs.Tallies.{StandsFor}
use Rattle.vote_log.proofs.tally.tally_of.Given as goal

abbrev pub invariant-loop-place : goal.invariant-loop-place
invariant-loop-place l = StandsFor (take l.place l.recs) l.deal l.tally
