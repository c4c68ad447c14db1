use Rattle.std.proofs.Common.{◌≡◌, drop}
use Rattle.house_deals.specs.DealSteps.{members_of}
use Rattle.house_deals.proofs.deal_steps.members.Given as goal

abbrev pub invariant-loop-declaration : goal.invariant-loop-declaration
invariant-loop-declaration l = members_of (drop l.declaration-index l.declarations) l.deal ≡ members_of l.declarations l.deal
