use Rattle.clear_core.proofs.FirstOver.{found_next, found_all, none_over, some_over}
use Rattle.clear_core.proofs.checking.first_over.Goals as goal

pub loop-step-preserved : goal.loop-step-preserved
loop-step-preserved c = found_next c.args.deal.now.steps c.args.party c.args.gives.now c.steps-step-items.result.now c.loop-step.step-index c.step-item.result c.loop-step.found c.earlier_over-found.result c.loop-step-test.true c.step-item.is c.earlier_over-found.ensures c.loop-step.invariant

pub returns-clause-some : goal.returns-clause-some
returns-clause-some c = some_over c.args.deal.now.steps c.args.party c.args.gives.now c.loop-step.found (found_all c.args.deal.now.steps c.args.party c.args.gives.now c.steps-step-items.result.now c.loop-step.step-index c.loop-step.found c.steps-step-items.ensures.value c.loop-step-test.false c.loop-step.invariant)

pub returns-clause-none : goal.returns-clause-none
returns-clause-none c = none_over c.args.deal.now.steps c.args.party c.args.gives.now c.loop-step.found (found_all c.args.deal.now.steps c.args.party c.args.gives.now c.steps-step-items.result.now c.loop-step.step-index c.loop-step.found c.steps-step-items.ensures.value c.loop-step-test.false c.loop-step.invariant)
