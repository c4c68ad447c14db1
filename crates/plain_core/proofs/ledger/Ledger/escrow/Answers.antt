use Rattle.plain_core.proofs.Acts.{escrow_accepted, escrow_refused}
use Rattle.plain_core.proofs.ledger.Ledger.escrow.Goals as goal

pub returns-in-Ok : goal.returns-in-Ok
returns-in-Ok c = escrow_accepted c.args.deal.now c.args.party.now c.args.asset.now c.args.amount c.self.inside.name c.self.inside.book c.escrow.new.self c.self.inside.entries c.plain_id.result c.plain_id-2.result c.args.self.now c.self.view_is c.plain_id.ensures c.plain_id-2.ensures c.in-Ok.ensures.ok.0 c.in-Ok.ensures.ok.1

pub returns-in-Err : goal.returns-in-Err
returns-in-Err c = escrow_refused c.args.deal.now c.args.party.now c.args.asset.now c.args.amount c.self.inside.name c.self.inside.book c.escrow.new.self c.self.inside.entries c.plain_id.result c.plain_id-2.result c.args.self.now c.in-Err.fault c.refused.result c.self.view_is c.plain_id.ensures c.plain_id-2.ensures c.in-Err.ensures.refused c.in-Err.ensures.unchanged c.refused.ensures
