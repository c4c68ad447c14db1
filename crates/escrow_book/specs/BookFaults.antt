-- What the refusals of a book tell.
use Rattle.std.specs.Prelude.{List, [], ◌∷◌, codes}
use Rattle.dh_base.specs.Refusals.{Told, told_of, field_of}
use Rattle.dh_base.specs.declared.refusal.FieldValue.TheVariants.{Number, Hash, Ending}
use Rattle.escrow_book.specs.declared.fault.BookFault.{BookFault}
use Rattle.escrow_book.specs.declared.fault.BookFault.TheVariants.{UnknownDeal, NotAParty, DealSettled, WrongTurn, ZeroOrSelf, Short, NoMemory}

abbrev pub book_fault_told : BookFault → List Told
book_fault_told UnknownDeal = told_of 1 (codes "UnknownDeal") [] ∷ []
book_fault_told (NotAParty account) =
    told_of 2 (codes "NotAParty") (field_of (codes "account") (Hash account) ∷ []) ∷ []
book_fault_told (DealSettled outcome) =
    told_of 3 (codes "DealSettled") (field_of (codes "outcome") (Ending outcome) ∷ []) ∷ []
book_fault_told (WrongTurn expected) =
    told_of 4 (codes "WrongTurn") (field_of (codes "expected") (Number expected) ∷ []) ∷ []
book_fault_told ZeroOrSelf = told_of 5 (codes "ZeroOrSelf") [] ∷ []
book_fault_told (Short held) =
    told_of 6 (codes "Short") (field_of (codes "held") (Number held) ∷ []) ∷ []
book_fault_told NoMemory = told_of 7 (codes "NoMemory") [] ∷ []
