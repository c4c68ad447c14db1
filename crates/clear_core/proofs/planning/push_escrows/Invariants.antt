use Rattle.std.proofs.Common.{◌≡◌, ◌++◌, take}
use Rattle.clear_core.specs.Plans.{escrows_of}
use Rattle.clear_core.proofs.planning.push_escrows.Given as goal

abbrev pub invariant-loop-pair : goal.invariant-loop-pair
invariant-loop-pair l = l.acts.items ≡ l.fn.acts.items ++ escrows_of l.deal.steps l.party (take l.pair-index l.pairs)
