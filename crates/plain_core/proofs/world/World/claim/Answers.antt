use Rattle.std.proofs.Common.{List, sym, ap, subst, ◌∙◌}
use Rattle.plain_core.proofs.Places.{unknown_ledger, ledger_answers}
use Rattle.vote_log.specs.Entry.{Entry}
use Rattle.plain_core.specs.Given.{Gives}
use Rattle.plain_core.specs.Ledgers.{World, claim_answer}
use Rattle.plain_core.specs.declared.reply.Reply.TheVariants.{RefusedClaim}
use Rattle.plain_core.specs.declared.claim_refusal.ClaimRefusal.TheVariants.{UnknownDeal}
use Rattle.plain_core.proofs.world.World.claim.Goals as goal

pub returns-in-None : goal.returns-in-None
returns-in-None c = unknown_ledger c.args.ledger.now (claim_answer c.args.self.now.log.entries c.args.deal.now c.args.len) (RefusedClaim UnknownDeal) c.args.self.now (sym c.in-None.ensures)

pub returns-in-Some : goal.returns-in-Some
returns-in-Some c = ledger_answers c.args.ledger.now (claim_answer c.args.self.now.log.entries c.args.deal.now c.args.len) (RefusedClaim UnknownDeal) c.self.inside.ledgers.items c.self.inside.log c.in-Some.place c.index_mut.result.now c.claim.new.self c.claim.result c.args.self.now c.self.view_is (sym c.in-Some.ensures) c.index_mut.ensures.value (subst (λ (es : List Entry). Gives c.claim.result c.claim.new.self (claim_answer es c.args.deal.now c.args.len c.index_mut.result.now)) (c.recs.ensures.value ∙ ap (λ (w : World). w.log.entries) c.self.view_is) c.claim.ensures)
