use Rattle.std.proofs.Common.{vec_len, ◌-◌, ◌+◌}
use Rattle.keeper_core.specs.Laying.{HaveSameSlots}
use Rattle.keeper_core.proofs.cells.reach.Given as goal

abbrev pub invariant-loop-alloc : goal.invariant-loop-alloc
invariant-loop-alloc l = HaveSameSlots l.initial.tables.items l.tables.items

abbrev pub decreases-loop-alloc : goal.decreases-loop-alloc
decreases-loop-alloc l = l.place + 1 - vec_len l.tables
