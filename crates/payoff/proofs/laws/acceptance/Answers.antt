use Rattle.std.proofs.Common.{◌≡◌, Option, Some, None, IsSome, refl}
use Rattle.vote_log.specs.declared.decision.Decision.{Decision}
use Rattle.vote_log.specs.Deciding.{outcome_of}
use Rattle.payoff.proofs.Kept.{kept_all}
use Rattle.payoff.proofs.laws.acceptance.Goals as goal

some_there : (o : Option Decision) → IsSome o → (d : Decision) × (o ≡ Some d)
some_there None h = absurd cc
some_there (Some d) h = (d, refl)

pub returns : goal.returns
returns d = λ w run name ledger deal account asset log more o steps given here some open_yet a.
    let found = some_there (outcome_of log deal) (d.abort_decides.ensures log deal a.start a.parties a.place a.index a.started a.behind a.here a.party) in
    let history = (kept_all w run o steps given).histories name ledger here in
    record {
      registered = d.escrows_are_registered.ensures name ledger.rows ledger.entries deal account asset history some;
      open_yet = open_yet;
      decision = found.0;
      decides = d.outcome_stays.ensures log more deal found.0 found.1;
    }
