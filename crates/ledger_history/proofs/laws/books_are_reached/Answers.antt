use Rattle.std.proofs.Common.{[]}
use Rattle.escrow_book.specs.Reached.{started}
use Rattle.ledger_history.proofs.Reaching.{all_reached}
use Rattle.ledger_history.proofs.laws.books_are_reached.Goals as goal

pub returns : goal.returns
returns c = λ name rows entries h.
    all_reached (record { register = c.reached_grows.ensures.register; escrow = c.reached_grows.ensures.escrow; transfer = c.reached_grows.ensures.transfer; pay = c.reached_grows.ensures.pay; settle = c.reached_grows.ensures.settle })
    name (started rows) [] entries (c.accepted_grows.ensures.start rows h.good) h.accepted
