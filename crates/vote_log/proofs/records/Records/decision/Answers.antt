use Rattle.std.proofs.Common.{ap, ◌∙◌}
use Rattle.vote_log.specs.Deciding.{outcome_of}
use Rattle.vote_log.specs.Log.{Log}
use Rattle.vote_log.proofs.Tallied.{undecided}
use Rattle.vote_log.proofs.records.Records.decision.Goals as goal

pub returns-in_err-get : goal.returns-in_err-get
returns-in_err-get c =
    c.from_residual.ensures
    ∙ (undecided c.self.inside.records.items c.self.inside.tallies c.args.deal.now c.self.invariant.stand c.in_err-get.ensures
    ∙ ap (λ (l : Log). outcome_of l.entries c.args.deal.now) c.self.view_is)
