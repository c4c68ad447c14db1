use Rattle.keeper_core.proofs.OtherTables.{other_tables_stay}
use Rattle.keeper_core.proofs.laws.other_tables_stay.Goals as goal

pub returns : goal.returns
returns c = other_tables_stay
