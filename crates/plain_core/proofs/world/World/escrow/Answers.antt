use Rattle.std.proofs.Common.{sym}
use Rattle.plain_core.proofs.Places.{unknown_ledger, ledger_answers}
use Rattle.plain_core.specs.Ledgers.{escrow_answer}
use Rattle.plain_core.specs.declared.reply.Reply.TheVariants.{RefusedAct}
use Rattle.plain_core.specs.declared.act_refusal.ActRefusal.TheVariants.{UnknownDeal}
use Rattle.plain_core.proofs.world.World.escrow.Goals as goal

pub returns-in-None : goal.returns-in-None
returns-in-None c = unknown_ledger c.args.ledger.now (escrow_answer c.args.deal.now c.args.party.now c.args.asset.now c.args.amount) (RefusedAct UnknownDeal) c.args.self.now (sym c.in-None.ensures)

pub returns-in-Some : goal.returns-in-Some
returns-in-Some c = ledger_answers c.args.ledger.now (escrow_answer c.args.deal.now c.args.party.now c.args.asset.now c.args.amount) (RefusedAct UnknownDeal) c.self.inside.ledgers.items c.self.inside.log c.in-Some.place c.index_mut.result.now c.escrow.new.self c.escrow.result c.args.self.now c.self.view_is (sym c.in-Some.ensures) c.index_mut.ensures.value c.escrow.ensures
