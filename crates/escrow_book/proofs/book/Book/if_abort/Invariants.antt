use Rattle.std.proofs.Common.{◌≡◌, ◌+◌, take}
use Rattle.escrow_book.specs.Base.{carried_abort}
use Rattle.std.specs.List.{sum_by}
use Rattle.escrow_book.specs.History.{escrowed}
use Rattle.escrow_book.proofs.book.Book.if_abort.Given as goal

abbrev pub invariant-loop-entry : goal.invariant-loop-entry
invariant-loop-entry l = l.sum ≡ carried_abort l.self.carried l.deal l.party l.asset + sum_by (λ entry. escrowed l.deal l.party l.asset entry.change) (take l.entry-index l.entry-items)
