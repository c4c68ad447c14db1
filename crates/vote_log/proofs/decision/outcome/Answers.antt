use Rattle.std.proofs.Common.{◌∙◌}
use Rattle.vote_log.proofs.Counted.{outcome_none}
use Rattle.vote_log.proofs.decision.outcome.Goals as goal

pub returns-in_err-tally_of : goal.returns-in_err-tally_of
returns-in_err-tally_of c =
    c.from_residual.ensures ∙ outcome_none c.args.recs.now c.args.deal.now c.in_err-tally_of.ensures
