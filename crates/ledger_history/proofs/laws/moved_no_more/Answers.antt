use Rattle.std.proofs.Common.{◌≤◌, sym, subst}
use Rattle.ledger_rows.specs.Entries.{book_of}
use Rattle.escrow_book.specs.History.{History, if_commit_of}
use Rattle.ledger_history.proofs.Fronts.{rest_is, book_append}
use Rattle.ledger_history.proofs.Moving.{no_less}
use Rattle.ledger_history.proofs.laws.moved_no_more.Goals as goal

pub returns : goal.returns
returns c = λ name rows front rest deal account turns asset h below all.
    subst (λ (b : History). if_commit_of (book_of rows front) deal account asset ≤ if_commit_of b deal account asset) (sym (book_append rows front rest))
    (no_less name (book_of rows front) front rest deal account turns asset (rest_is name rows front rest h) below all)
