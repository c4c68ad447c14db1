use Rattle.std.proofs.Common.{rules, arith}
use Rattle.std.proofs.lemmas.Grind.{common_steps}
use Rattle.keeper_core.proofs.Leaving.{stops_after}
use Rattle.keeper_core.proofs.mem_keeper.MemKeeperKeeper.commit.Goals as goal

pub returns-in_ok-apply-in-Some-StopAfter-clause-leaves : goal.returns-in_ok-apply-in-Some-StopAfter-clause-leaves
returns-in_ok-apply-in-Some-StopAfter-clause-leaves c = search (rules, stops_after)
