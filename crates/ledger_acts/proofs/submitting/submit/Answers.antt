use Rattle.std.proofs.Common.{refl}
use Rattle.ledger_acts.proofs.Submits.{unsaid_answer, unsaid}
use Rattle.ledger_acts.proofs.submitting.submit.Goals as goal

pub returns-in-Err-clause-step : goal.returns-in-Err-clause-step
returns-in-Err-clause-step g c =
    let e = c.in-Err.ensures in
    unsaid c.args.ledger.now c.args.place.now c.args.env.now c.in-Err.fault (g.K.Keeper.known c.args.keeper.now)
    (unsaid_answer c.args.env.now c.in-Err.fault _ refl e.bad_ring e.key_outside e.bad_signature e.exact)
