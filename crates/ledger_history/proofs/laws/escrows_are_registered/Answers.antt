use Rattle.std.proofs.Common.{◌≡◌, true, Option, Some, None, is_some, List, [], refl, arith}
use Rattle.dh_base.specs.declared.id.Id.{Id}
use Rattle.escrow_book.specs.History.{if_abort_of, parties_of}
use Rattle.escrow_book.specs.Reached.{started}
use Rattle.ledger_rows.specs.Entries.{book_of}
use Rattle.ledger_history.proofs.Known.{none_escrowed}
use Rattle.ledger_history.proofs.laws.escrows_are_registered.Goals as goal

known : (o : Option (List Id)) → (o ≡ None → ⊥) → is_some o ≡ true
known None f = absurd (f refl)
known (Some parties) f = refl

pub returns : goal.returns
returns c = λ name rows entries deal account asset h some.
    known (parties_of (book_of rows entries) deal)
    (λ none.
    let same = (none_escrowed name (started rows) [] entries deal account asset h.accepted none).same in
    let zero : if_abort_of (book_of rows entries) deal account asset ≡ 0 = same in
    absurd (omega (arith, zero, some)))
