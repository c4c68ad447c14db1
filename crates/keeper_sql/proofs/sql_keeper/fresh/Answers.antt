use Rattle.sqlite.proofs.Callers.{memory_is_clean}
use Rattle.keeper_sql.proofs.sql_keeper.fresh.Goals as goal

pub returns-clause-idle : goal.returns-clause-idle
returns-clause-idle c = (c.in_ok-create.ensures.made (memory_is_clean c.create.new.conn) c.in_ok-conn.ensures.empty.2).2

pub returns-clause-kept : goal.returns-clause-kept
returns-clause-kept c = (c.in_ok-create.ensures.made (memory_is_clean c.create.new.conn) c.in_ok-conn.ensures.empty.2).0

pub returns-clause-empty : goal.returns-clause-empty
returns-clause-empty c = (c.in_ok-create.ensures.made (memory_is_clean c.create.new.conn) c.in_ok-conn.ensures.empty.2).1
