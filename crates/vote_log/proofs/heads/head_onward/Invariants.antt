use Rattle.std.proofs.Common.{◌≡◌, drop}
use Rattle.vote_log.specs.Heads.{head_from}
use Rattle.vote_log.proofs.heads.head_onward.Given as goal

abbrev pub invariant-loop-rec : goal.invariant-loop-rec
invariant-loop-rec l = head_from l.head (drop l.rec-index l.recs) ≡ head_from l.before l.recs
