use Rattle.std.proofs.Common.{◌≡◌, ◌+◌, [], inl, inr, ⊎_elim, arith}
use Rattle.escrow_book.specs.History.{if_abort_of}
use Rattle.escrow_book.specs.Reached.{started}
use Rattle.ledger_rows.specs.Entries.{book_of}
use Rattle.ledger_history.proofs.Escrowing.{once_behind}
use Rattle.ledger_history.proofs.laws.escrowed_once.Goals as goal

pub returns : goal.returns
returns c = λ name rows entries texts deal account asset amount h those once.
    ⊎_elim
    (λ (none : if_abort_of (book_of rows entries) deal account asset ≡ if_abort_of (started rows) deal account asset). inl none)
    (λ (some : if_abort_of (book_of rows entries) deal account asset ≡ if_abort_of (started rows) deal account asset + amount). let most : if_abort_of (book_of rows entries) deal account asset ≡ 0 + amount = some in inr (omega (arith, most)))
    (once_behind name texts deal account asset amount once (started rows) [] entries h.accepted those)
