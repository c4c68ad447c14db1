use Rattle.std.proofs.Common.{length}
use Rattle.ledger_core.proofs.opens.+all_spelled.Given as goal

abbrev pub decreases-all_spelled : goal.decreases-all_spelled
decreases-all_spelled l = length l.rows.now
