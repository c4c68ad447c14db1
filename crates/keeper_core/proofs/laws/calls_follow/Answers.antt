use Rattle.keeper_core.proofs.Leaving.{then_commit, then_call, then_read, then_reads_behind, ends_early}
use Rattle.keeper_core.proofs.laws.calls_follow.Goals as goal

pub returns : goal.returns
returns c = record { commits = then_commit; calls = then_call; reads = then_read; behind = then_reads_behind; early = ends_early }
