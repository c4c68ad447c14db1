use Rattle.std.proofs.Common.{◌≡◌, take}
use Rattle.house_deals.specs.DealSteps.{steps_among}
use Rattle.house_deals.proofs.deal_steps.steps_among.Given as goal

abbrev pub invariant-loop-declaration : goal.invariant-loop-declaration
invariant-loop-declaration l = l.steps.items ≡ steps_among (take l.declaration-index l.declarations) l.deal l.members
