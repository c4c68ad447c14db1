-- What is known of a keeper over a database.
use Rattle.sqlite.specs.Store.{Ghosts}
use Rattle.sqlite.specs.Held.{state}
use Rattle.keeper_core.specs.Knowing.{Known}
use Rattle.keeper_sql.specs.declared.sql_keeper.SqlKeeper.{SqlKeeper}
use Rattle.keeper_sql.specs.CellRows.{known_by}

-- the map while the connection is open, and the counts
abbrev pub known_of : {S : Type 0} {g : Ghosts S} → SqlKeeper S g → Known
known_of {S} {g} keeper = known_by (state g keeper.conn) keeper.faults keeper.looked
