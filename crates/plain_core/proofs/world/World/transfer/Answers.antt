use Rattle.std.proofs.Common.{sym}
use Rattle.plain_core.proofs.Places.{unknown_ledger, ledger_answers}
use Rattle.plain_core.specs.Ledgers.{transfer_answer}
use Rattle.plain_core.specs.declared.reply.Reply.TheVariants.{RefusedAct}
use Rattle.plain_core.specs.declared.act_refusal.ActRefusal.TheVariants.{UnknownDeal}
use Rattle.plain_core.proofs.world.World.transfer.Goals as goal

pub returns-in-None : goal.returns-in-None
returns-in-None c = unknown_ledger c.args.ledger.now (transfer_answer c.args.deal.now c.args.from.now c.args.turn c.args.to.now c.args.asset.now c.args.amount) (RefusedAct UnknownDeal) c.args.self.now (sym c.in-None.ensures)

pub returns-in-Some : goal.returns-in-Some
returns-in-Some c = ledger_answers c.args.ledger.now (transfer_answer c.args.deal.now c.args.from.now c.args.turn c.args.to.now c.args.asset.now c.args.amount) (RefusedAct UnknownDeal) c.self.inside.ledgers.items c.self.inside.log c.in-Some.place c.index_mut.result.now c.transfer.new.self c.transfer.result c.args.self.now c.self.view_is (sym c.in-Some.ensures) c.index_mut.ensures.value c.transfer.ensures
