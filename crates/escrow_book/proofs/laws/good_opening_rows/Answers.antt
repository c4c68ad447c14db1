use Rattle.std.proofs.Common.{[]}
use Rattle.escrow_book.proofs.OpeningRows.{good_or_bad}
use Rattle.escrow_book.proofs.laws.good_opening_rows.Goals as goal

pub returns : goal.returns
returns c = good_or_bad []
