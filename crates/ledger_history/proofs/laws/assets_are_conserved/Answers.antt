use Rattle.ledger_rows.specs.Entries.{book_of}
use Rattle.ledger_history.proofs.laws.assets_are_conserved.Goals as goal

pub returns : goal.returns
returns c = λ name rows entries accounts asset h its. c.conserved.ensures (book_of rows entries) accounts asset (c.books_are_reached.ensures name rows entries h) its
