use Rattle.plain_core.proofs.Acts.{transfer_accepted, transfer_refused}
use Rattle.plain_core.proofs.ledger.Ledger.transfer.Goals as goal

pub returns-in-Ok : goal.returns-in-Ok
returns-in-Ok c = transfer_accepted c.args.deal.now c.args.from.now c.args.turn c.args.to.now c.args.asset.now c.args.amount c.self.inside.name c.self.inside.book c.transfer.new.self c.self.inside.entries c.plain_id.result c.plain_id-2.result c.plain_id-3.result c.args.self.now c.self.view_is c.plain_id.ensures c.plain_id-2.ensures c.plain_id-3.ensures c.in-Ok.ensures.ok.0 c.in-Ok.ensures.ok.1

pub returns-in-Err : goal.returns-in-Err
returns-in-Err c = transfer_refused c.args.deal.now c.args.from.now c.args.turn c.args.to.now c.args.asset.now c.args.amount c.self.inside.name c.self.inside.book c.transfer.new.self c.self.inside.entries c.plain_id.result c.plain_id-2.result c.plain_id-3.result c.args.self.now c.in-Err.fault c.refused.result c.self.view_is c.plain_id.ensures c.plain_id-2.ensures c.plain_id-3.ensures c.in-Err.ensures.refused c.in-Err.ensures.unchanged c.refused.ensures
