use Rattle.escrow_book.proofs.Whole.{kept_at_start}
use Rattle.escrow_book.proofs.book.Book.start.Goals as goal

pub invariant_of-result : goal.invariant_of-result
invariant_of-result c = rw (c.in_ok-rows.ensures.items, c.new-deals_before.ensures.items, c.new-holds_before.ensures.items, c.new-moves_before.ensures.items, c.new-entries.ensures.items, c.new-deals.ensures.items) (kept_at_start c.args.rows.now c.requires)
