-- What the refusals of an agent tell, and how a call ends by them.
use Rattle.std.specs.Prelude.{List, [], ◌∷◌, codes}
use Rattle.dh_base.specs.Refusals.{Told, told_of, field_of}
use Rattle.dh_base.specs.declared.refusal.FieldValue.TheVariants.{Number, Hash, Called, Ending}
use Rattle.clear_core.specs.TermFaults.{term_fault_told}
use Rattle.deal_core.specs.DealFaults.{deal_fault_told}
use Rattle.deal_core.specs.declared.deal_fault.DealFault.{DealFault}
use Rattle.deal_core.specs.declared.deal_fault.DealFault.TheVariants as deal
use Rattle.keeper_core.specs.declared.store_fault.StoreFault.TheVariants.{NoMemory}
use Rattle.keeper_core.specs.Leaving.{Ended, refused, of_store_fault}
use Rattle.keeper_core.specs.StoreFaults.{store_fault_told}
use Rattle.joined_deals.specs.declared.agent_fault.AgentFault.{AgentFault}
use Rattle.joined_deals.specs.declared.agent_fault.AgentFault.TheVariants.{NotJoined, JoinedAlready, BadDeal, OtherHouse, NotAParty, Terms, KeysShort, Voted, NotIssued, AbortSigned, ActsOpen, Settled, NotValidated, MovesOpen, NotMine, NotOfDeal, Store}

abbrev pub agent_fault_told : AgentFault → List Told
agent_fault_told NotJoined = told_of 1 (codes "NotJoined") [] ∷ []
agent_fault_told JoinedAlready = told_of 2 (codes "JoinedAlready") [] ∷ []
agent_fault_told (BadDeal fault) = told_of 3 (codes "BadDeal") [] ∷ deal_fault_told fault
agent_fault_told (OtherHouse named) =
    told_of 4 (codes "OtherHouse") (field_of (codes "named") (Hash named) ∷ []) ∷ []
agent_fault_told NotAParty = told_of 5 (codes "NotAParty") [] ∷ []
agent_fault_told (Terms fault) = told_of 6 (codes "Terms") [] ∷ term_fault_told fault
agent_fault_told (KeysShort left needed) =
    told_of 7 (codes "KeysShort")
    (field_of (codes "left") (Number left) ∷ field_of (codes "needed") (Number needed) ∷ []) ∷ []
agent_fault_told Voted = told_of 8 (codes "Voted") [] ∷ []
agent_fault_told (NotIssued issued) =
    told_of 9 (codes "NotIssued") (field_of (codes "issued") (Number issued) ∷ []) ∷ []
agent_fault_told AbortSigned = told_of 10 (codes "AbortSigned") [] ∷ []
agent_fault_told (ActsOpen left) =
    told_of 11 (codes "ActsOpen") (field_of (codes "left") (Number left) ∷ []) ∷ []
agent_fault_told (Settled ledger outcome) =
    told_of 12 (codes "Settled")
    (field_of (codes "ledger") (Called ledger) ∷
    field_of (codes "outcome") (Ending outcome) ∷ []) ∷ []
agent_fault_told (NotValidated ledger asset seen due) =
    told_of 13 (codes "NotValidated")
    (field_of (codes "ledger") (Called ledger) ∷ field_of (codes "asset") (Called asset) ∷
    field_of (codes "seen") (Number seen) ∷ field_of (codes "due") (Number due) ∷ []) ∷ []
agent_fault_told (MovesOpen ledger seen own) =
    told_of 14 (codes "MovesOpen")
    (field_of (codes "ledger") (Called ledger) ∷ field_of (codes "seen") (Number seen) ∷
    field_of (codes "own") (Number own) ∷ []) ∷ []
agent_fault_told (NotMine party) =
    told_of 15 (codes "NotMine") (field_of (codes "party") (Hash party) ∷ []) ∷ []
agent_fault_told (NotOfDeal ledger) =
    told_of 16 (codes "NotOfDeal") (field_of (codes "ledger") (Called ledger) ∷ []) ∷ []
agent_fault_told (Store fault) = told_of 17 (codes "Store") [] ∷ store_fault_told fault

-- how the call ended
abbrev pub of_agent_fault : AgentFault → Ended
of_agent_fault (Store fault) = of_store_fault fault
of_agent_fault _ = refused

-- Want of memory at a deal's text is the agent's own; any other fault says that it is no deal's.
abbrev pub agent_fault_of_deal : DealFault → AgentFault
agent_fault_of_deal deal.NoMemory = Store NoMemory
agent_fault_of_deal fault = BadDeal fault
