use Rattle.std.proofs.Common.{sym}
use Rattle.plain_core.proofs.Acts.{claim_already}
use Rattle.plain_core.proofs.ledger.Ledger.claim.Goals as goal

pub returns-in-Some : goal.returns-in-Some
returns-in-Some c = claim_already c.args.records.now c.args.deal.now c.args.len c.self.inside.name c.self.inside.book c.self.inside.entries c.plain_id-id.result c.in-Some.outcome c.args.self.now c.self.view_is c.plain_id-id.ensures (sym c.if-not-is_registered.ensures) (sym c.in-Some.ensures)
