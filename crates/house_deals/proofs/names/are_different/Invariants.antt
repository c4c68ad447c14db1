use Rattle.std.proofs.Common.{◌≡◌, length}
use Rattle.house_deals.specs.Different.{are_different}
use Rattle.house_deals.proofs.names.are_different.Given as goal

abbrev pub invariant-loop-left : goal.invariant-loop-left
invariant-loop-left l = are_different l.left ≡ are_different l.names

abbrev pub decreases-loop-left : goal.decreases-loop-left
decreases-loop-left l = length l.left
