use Rattle.std.proofs.Common.{◌≡◌, true, take}
use Rattle.std.specs.List.{list_all}
use Rattle.house_deals.specs.DealSteps.{is_whole_line}
use Rattle.house_deals.proofs.deal_steps.are_whole.Given as goal

abbrev pub invariant-loop-declaration : goal.invariant-loop-declaration
invariant-loop-declaration l = list_all (is_whole_line l.declarations) (take l.declaration-index l.declarations) ≡ true
