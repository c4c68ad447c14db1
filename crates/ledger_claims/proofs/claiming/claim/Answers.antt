use Rattle.ledger_claims.proofs.ClaimSteps.{claims_step}
use Rattle.ledger_claims.proofs.claiming.claim.Goals as goal

pub returns-clause-step : goal.returns-clause-step
returns-clause-step g c =
    claims_step c.args.genesis.now c.args.number c.args.deal.now c.args.claim.now c.claim_by_rows.result (g.K.Keeper.known c.args.keeper.now) (g.K.Keeper.known c.claim_by_rows.new.keeper) c.claim_by_rows.ensures.rows
