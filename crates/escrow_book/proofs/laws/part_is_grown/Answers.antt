use Rattle.escrow_book.proofs.Rows.{good_rows}
use Rattle.escrow_book.proofs.laws.part_is_grown.Goals as goal

pub returns : goal.returns
returns c = λ rows fit none. record { good = good_rows rows fit none; accepted = tt }
