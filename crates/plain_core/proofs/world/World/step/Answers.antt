use Rattle.std.proofs.Common.{sym, subst}
use Rattle.plain_script.specs.declared.event.Event.{Event}
use Rattle.plain_core.specs.Given.{GivesStep}
use Rattle.plain_core.specs.Ledgers.{step_of}
use Rattle.plain_core.proofs.world.World.step.Goals as goal

pub returns-in-Commit : goal.returns-in-Commit
returns-in-Commit c = subst (λ (e : Event). GivesStep c.vote.result c.vote.new.self (step_of c.args.declarations.now c.args.self.now e)) (sym c.in-Commit.is) c.vote.ensures

pub returns-in-Abort : goal.returns-in-Abort
returns-in-Abort c = subst (λ (e : Event). GivesStep c.vote-in-Abort.result c.vote-in-Abort.new.self (step_of c.args.declarations.now c.args.self.now e)) (sym c.in-Abort.is) c.vote-in-Abort.ensures
