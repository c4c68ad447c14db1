use Rattle.std.proofs.Common.{◌≡◌, map, take}
use Rattle.plain_core.specs.Openings.{ledger_names}
use Rattle.plain_core.specs.Starts.{started_ledger}
use Rattle.plain_core.proofs.world.start_ledgers.Given as goal

abbrev pub invariant-loop-declaration : goal.invariant-loop-declaration
invariant-loop-declaration l = l.ledgers.items ≡ map (started_ledger l.declarations) (ledger_names (take l.declaration-index l.declarations))
