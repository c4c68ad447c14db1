use Rattle.ledger_rows.proofs.OpenCounted.{deals_counted}
use Rattle.ledger_rows.proofs.laws.open_deals_counted.Goals as goal

pub returns : goal.returns
returns c = deals_counted
