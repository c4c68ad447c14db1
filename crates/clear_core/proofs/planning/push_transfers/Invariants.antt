use Rattle.std.proofs.Common.{◌≡◌, ◌++◌, [], take, drop}
use Rattle.clear_core.specs.Plans.{transfers_behind}
use Rattle.clear_core.proofs.planning.push_transfers.Given as goal

abbrev pub invariant-loop-place : goal.invariant-loop-place
invariant-loop-place l = l.acts.items ++ transfers_behind l.party (take l.place l.steps) (drop l.place l.steps) ≡ l.fn.acts.items ++ transfers_behind l.party [] l.steps
