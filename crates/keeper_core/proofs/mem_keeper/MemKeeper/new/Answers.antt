use Rattle.std.proofs.Common.{ap, ◌∙◌, None, false}
use Rattle.keeper_core.specs.Tables.{Tables}
use Rattle.keeper_core.specs.Slots.{filled}
use Rattle.keeper_core.specs.Memory.{KeeperTold}
use Rattle.keeper_core.proofs.Filled.{filled_empty}
use Rattle.keeper_core.proofs.mem_keeper.MemKeeper.new.Goals as goal

start_with : Tables → KeeperTold
start_with tables = record { tables = tables; armed = None; stopped = false; faults = 0; looked = 0 }

pub returns : goal.returns
unfolding start_with
returns c = c.over.ensures ∙ ap start_with (ap filled c.new.ensures ∙ filled_empty)
