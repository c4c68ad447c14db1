use Rattle.escrow_book.specs.Reached.{started}
use Rattle.ledger_history.proofs.Settled.{is_settled}
use Rattle.ledger_history.proofs.laws.settlements_stand.Goals as goal

pub returns : goal.returns
returns c = λ rows entries deal outcome there open_yet. is_settled (started rows) entries deal outcome there open_yet
