use Rattle.std.proofs.Common.{[], ◌∷◌, ap, ◌∙◌}
use Rattle.ledger_rows.specs.declared.entry.Entry.TheVariants.{Settlement}
use Rattle.ledger_rows.specs.Entries.{book_of}
use Rattle.escrow_book.specs.History.{History, free_of}
use Rattle.ledger_history.proofs.Fronts.{front_is, rest_is, book_append}
use Rattle.ledger_history.proofs.laws.settlements_pay.Goals as goal

pub returns : goal.returns
returns c = λ name rows front deal outcome account asset h.
    let refused = (rest_is name rows front (Settlement deal outcome ∷ []) h).0 in
    ap (λ (b : History). free_of b account asset) (book_append rows front (Settlement deal outcome ∷ []))
    ∙ c.settlement_pays.ensures (book_of rows front) deal account asset outcome (c.books_are_reached.ensures name rows front (front_is name rows front (Settlement deal outcome ∷ []) h)) refused
