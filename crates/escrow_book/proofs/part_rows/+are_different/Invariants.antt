use Rattle.std.proofs.Common.{length}
use Rattle.escrow_book.proofs.part_rows.+are_different.Given as goal

abbrev pub decreases-are_different : goal.decreases-are_different
decreases-are_different l = length l.accounts.now
