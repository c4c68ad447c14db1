use Rattle.escrow_book.proofs.Whole.{part_at_start}
use Rattle.escrow_book.proofs.book.Book.part.Goals as goal

pub invariant_of-result : goal.invariant_of-result
invariant_of-result c = rw (c.new-entries.ensures.items, c.in_ok-part.ensures.ok.3) (part_at_start c.in_ok-part.part.free.items c.in_ok-part.part.deals.items c.in_ok-part.part.holds.items c.in_ok-part.part.moves.items c.in_ok-part.ensures.ok.2)
