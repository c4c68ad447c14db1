use Rattle.std.proofs.Common.{◌≡◌, ◌+◌, take}
use Rattle.escrow_book.specs.Base.{carried_moves}
use Rattle.std.specs.List.{count_by}
use Rattle.escrow_book.specs.History.{is_move}
use Rattle.escrow_book.proofs.book.Book.moves.Given as goal

abbrev pub invariant-loop-entry : goal.invariant-loop-entry
invariant-loop-entry l = l.count ≡ carried_moves l.self.carried l.deal l.party + count_by (λ entry. is_move l.deal l.party entry.change) (take l.entry-index l.entry-items)
