-- What the refusals of a ledger tell, and how a call ends by them.
use Rattle.std.specs.Prelude.{List, [], ◌∷◌, codes}
use Rattle.dh_base.specs.Refusals.{Told, told_of, field_of}
use Rattle.dh_base.specs.declared.refusal.FieldValue.TheVariants.{Number, Hash, Called, Ending}
use Rattle.key_ring.specs.EnvFaults.{env_fault_told}
use Rattle.act_text.specs.declared.act_fault.ActFault.{ActFault}
use Rattle.act_text.specs.declared.act_fault.ActFault.TheVariants as act
use Rattle.act_text.specs.ActFaults.{act_fault_told}
use Rattle.deal_core.specs.DealFaults.{deal_fault_told}
use Rattle.deal_core.specs.declared.deal_fault.DealFault.{DealFault}
use Rattle.deal_core.specs.declared.deal_fault.DealFault.TheVariants as deal
use Rattle.escrow_book.specs.declared.fault.BookFault.{BookFault}
use Rattle.escrow_book.specs.declared.fault.BookFault.TheVariants as book
use Rattle.keeper_core.specs.declared.store_fault.StoreFault.TheVariants.{NoMemory}
use Rattle.keeper_core.specs.StoreFaults.{store_fault_told}
use Rattle.keeper_core.specs.Leaving.{Ended, refused, of_store_fault}
use Rattle.ledger_acts.specs.declared.ledger_fault.LedgerFault.{LedgerFault}
use Rattle.ledger_acts.specs.declared.ledger_fault.LedgerFault.TheVariants.{BadEnvelope, BadAct, KeyReused, WrongLedger, BadDeal, WrongHouse, UnknownDeal, NotAParty, DealsFull, DealSettled, WrongTurn, ZeroOrSelf, Short, LedgerFull, Store}

abbrev pub ledger_fault_told : LedgerFault → List Told
ledger_fault_told (BadEnvelope fault) = told_of 1 (codes "BadEnvelope") [] ∷ env_fault_told fault
ledger_fault_told (BadAct fault) = told_of 2 (codes "BadAct") [] ∷ act_fault_told fault
ledger_fault_told (KeyReused kept) =
    told_of 3 (codes "KeyReused") (field_of (codes "kept") (Hash kept) ∷ []) ∷ []
ledger_fault_told (WrongLedger named) =
    told_of 4 (codes "WrongLedger") (field_of (codes "named") (Called named) ∷ []) ∷ []
ledger_fault_told (BadDeal fault) = told_of 5 (codes "BadDeal") [] ∷ deal_fault_told fault
ledger_fault_told (WrongHouse named) =
    told_of 6 (codes "WrongHouse") (field_of (codes "named") (Hash named) ∷ []) ∷ []
ledger_fault_told UnknownDeal = told_of 7 (codes "UnknownDeal") [] ∷ []
ledger_fault_told (NotAParty account) =
    told_of 8 (codes "NotAParty") (field_of (codes "account") (Hash account) ∷ []) ∷ []
ledger_fault_told (DealsFull held) =
    told_of 9 (codes "DealsFull") (field_of (codes "held") (Number held) ∷ []) ∷ []
ledger_fault_told (DealSettled outcome) =
    told_of 10 (codes "DealSettled") (field_of (codes "outcome") (Ending outcome) ∷ []) ∷ []
ledger_fault_told (WrongTurn expected) =
    told_of 11 (codes "WrongTurn") (field_of (codes "expected") (Number expected) ∷ []) ∷ []
ledger_fault_told ZeroOrSelf = told_of 12 (codes "ZeroOrSelf") [] ∷ []
ledger_fault_told (Short held) =
    told_of 13 (codes "Short") (field_of (codes "held") (Number held) ∷ []) ∷ []
ledger_fault_told (LedgerFull acts) =
    told_of 14 (codes "LedgerFull") (field_of (codes "acts") (Number acts) ∷ []) ∷ []
ledger_fault_told (Store fault) = told_of 15 (codes "Store") [] ∷ store_fault_told fault

-- ---- how a call ended

abbrev pub of_ledger_fault : LedgerFault → Ended
of_ledger_fault (Store fault) = of_store_fault fault
of_ledger_fault _ = refused

-- a refusal of the book is the ledger's
abbrev pub ledger_fault_of : BookFault → LedgerFault
ledger_fault_of book.UnknownDeal = UnknownDeal
ledger_fault_of (book.NotAParty account) = NotAParty account
ledger_fault_of (book.DealSettled outcome) = DealSettled outcome
ledger_fault_of (book.WrongTurn expected) = WrongTurn expected
ledger_fault_of book.ZeroOrSelf = ZeroOrSelf
ledger_fault_of (book.Short held) = Short held
ledger_fault_of book.NoMemory = Store NoMemory

-- Want of memory at a deal's text is the ledger's own; any other fault says that it is no deal's.
abbrev pub ledger_fault_of_deal : DealFault → LedgerFault
ledger_fault_of_deal deal.NoMemory = Store NoMemory
ledger_fault_of_deal fault = BadDeal fault

-- Want of memory at a message is the ledger's own; any other fault says that it is no act.
abbrev pub ledger_fault_of_act : ActFault → LedgerFault
ledger_fault_of_act act.NoMemory = Store NoMemory
ledger_fault_of_act fault = BadAct fault
