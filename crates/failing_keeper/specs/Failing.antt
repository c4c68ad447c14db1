-- A keeper in memory that is told how many calls go before the one that fails.
use Rattle.std.specs.Prelude.{ℕ, zero, suc, Option, Some, None}
use Rattle.keeper_core.specs.Knowing.{Known}
use Rattle.keeper_core.specs.Memory as memory
use Rattle.failing_keeper.specs.declared.failing_keeper.FailingKeeper.{FailingKeeper}

-- how many calls go before it behind one call more
abbrev pub one_fewer : Option ℕ → Option ℕ
one_fewer None = None
one_fewer (Some zero) = None
one_fewer (Some (suc calls)) = Some calls

-- It tells its map, and not what is to come.
abbrev pub known_of : FailingKeeper → Known
known_of keeper = record (memory.known_of keeper.keeper) { coming = None }
