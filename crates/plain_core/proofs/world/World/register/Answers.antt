use Rattle.std.proofs.Common.{ℕ, List, sym, subst}
use Rattle.plain_core.proofs.Places.{unknown_ledger, ledger_answers}
use Rattle.plain_script.specs.BoundNames.{members_of}
use Rattle.plain_core.specs.Given.{Gives}
use Rattle.plain_core.specs.Ledgers.{register_answer}
use Rattle.plain_core.specs.declared.reply.Reply.TheVariants.{RefusedAct}
use Rattle.plain_core.specs.declared.act_refusal.ActRefusal.TheVariants.{UnknownDeal}
use Rattle.plain_core.proofs.Members.{parties_declared}
use Rattle.plain_core.proofs.world.World.register.Goals as goal

pub register-requires-clause-formed : goal.register-requires-clause-formed
register-requires-clause-formed c = parties_declared c.args.declarations.now c.args.deal.now c.members.result.now c.members.ensures.value c.members.ensures.rules

pub returns-in-None : goal.returns-in-None
returns-in-None c = unknown_ledger c.args.ledger.now (register_answer (members_of c.args.declarations.now c.args.deal.now) c.args.deal.now c.args.party.now) (RefusedAct UnknownDeal) c.args.self.now (sym c.in-None.ensures)

pub returns-in-Some : goal.returns-in-Some
returns-in-Some c = ledger_answers c.args.ledger.now (register_answer (members_of c.args.declarations.now c.args.deal.now) c.args.deal.now c.args.party.now) (RefusedAct UnknownDeal) c.self.inside.ledgers.items c.self.inside.log c.in-Some.place c.index_mut.result.now c.register.new.self c.register.result c.args.self.now c.self.view_is (sym c.in-Some.ensures) c.index_mut.ensures.value (subst (λ (ms : List (List ℕ)). Gives c.register.result c.register.new.self (register_answer ms c.args.deal.now c.args.party.now c.index_mut.result.now)) c.members.ensures.value c.register.ensures)
