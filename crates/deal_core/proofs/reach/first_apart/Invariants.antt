use Rattle.std.proofs.Common.{ℕ, ◌<◌}
use Rattle.deal_core.specs.Deals.{IsJoined}
use Rattle.deal_core.proofs.reach.first_apart.Given as goal

abbrev pub invariant-loop-party : goal.invariant-loop-party
invariant-loop-party l = (other : ℕ) → other < l.party → IsJoined l.steps other
