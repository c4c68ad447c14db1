use Rattle.std.proofs.Common.{ap, ◌∙◌}
use Rattle.std.specs.FinMap.{get}
use Rattle.keeper_core.specs.Memory.{KeeperTold}
use Rattle.keeper_core.proofs.mem_keeper.MemKeeper.peek.Goals as goal

pub returns : goal.returns
returns c = c.get.ensures ∙ ap (λ (k : KeeperTold). get k.tables (c.args.tab, c.args.key.now)) c.self.view_is
