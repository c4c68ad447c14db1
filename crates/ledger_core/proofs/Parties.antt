-- Who is a party of a deal, by its text.
use Rattle.std.proofs.Common.{◌≡◌, ℕ, ◌+◌, ◌<◌, ◌||◌, Bool, true, false, if◌then◌else◌, List, [], ◌∷◌, map, length, Option, Some, None, is_some, IfOk, Result, Ok, Err, refl, sym, ap, subst, ◌∙◌, arith}
use Rattle.std.specs.List.{AllByRecursion}
use Rattle.std.specs.Option.{option_or}
use Rattle.dh_base.specs.declared.id.Id.{Id}
use Rattle.dh_base.specs.Ids.{same_id}
use Rattle.dh_base.specs.declared.failure.NoMemory.{NoMemory as NoMemoryFault}
use Rattle.act_text.specs.declared.act.Act.{Act}
use Rattle.act_text.specs.declared.act.Act.TheVariants.{Register, Pay, Escrow, Transfer, StartDeal, Vote}
use Rattle.act_text.specs.declared.act_fault.ActFault.{ActFault}
use Rattle.act_text.specs.declared.office.Office.TheVariants.{Ledger}
use Rattle.act_text.specs.ActReading.{act_of}
use Rattle.deal_core.specs.declared.deal_fault.DealFault.{DealFault}
use Rattle.deal_core.specs.declared.deal_fault.DealFault.TheVariants.{BadLine, PartyTwice, UnknownParty, SelfStep, ZeroAmount, TooMany, SumTooLarge, NotConnected, NoMemory}
use Rattle.deal_core.specs.declared.party.Party.{Party}
use Rattle.deal_core.specs.Deals.{DealTold, IsJoined, has_account, party_where, index_of_account}
use Rattle.deal_core.specs.Drafts.{Draft, accounts_in}
use Rattle.deal_core.specs.Reading.{IsTextOf, IsFaultOf, draft_of}
use Rattle.escrow_book.specs.History.{is_in}
use Rattle.ledger_rows.specs.declared.entry.Entry.{Entry}
use Rattle.ledger_rows.specs.declared.entry.Entry.TheVariants.{Act as Accepted, Settlement}
use Rattle.ledger_rows.specs.Entries.{digest_of, registered_by_act, registered_by, registration_of}
use Rattle.ledger_acts.specs.LedgerState.{RegistersDeal}
use Rattle.ledger_core.specs.Statements.{TellsParty}

-- ---- the text of a registration

abbrev reads : Act → Result Act ActFault
reads act = Ok act

text_of_act : (d : Id) (account : Id) (read : Result Act ActFault) (by : Id × List ℕ) → registered_by_act d account read ≡ Some by → read ≡ Ok (Register by.1)
text_of_act d account (Ok (Register text)) by e = go (same_id d (digest_of text)) e
  where
    go : (here : Bool) → (if here then Some (account, text) else None) ≡ Some by → reads (Register text) ≡ reads (Register by.1)
    go true is = let same : text ≡ by.1 = cc in ap (λ (t : List ℕ). reads (Register t)) same
    go false is = absurd cc
text_of_act d account (Err fault) by e = absurd cc
text_of_act d account (Ok (Pay house ledger to asset amount)) by e = absurd cc
text_of_act d account (Ok (Escrow deal ledger asset amount)) by e = absurd cc
text_of_act d account (Ok (Transfer deal ledger turn to asset amount)) by e = absurd cc
text_of_act d account (Ok (StartDeal text)) by e = absurd cc
text_of_act d account (Ok (Vote deal index choice)) by e = absurd cc

entry_text_of : (d : Id) (e : Entry) (by : Id × List ℕ) → RegistersDeal e → registered_by d e ≡ Some by → (deal : DealTold) × IsTextOf deal by.1
entry_text_of d (Accepted account q message) by deals is = deals by.1 (text_of_act d account (act_of Ledger message) by is)
entry_text_of d (Settlement deal outcome) by deals is = absurd cc

-- the text of a registration is a deal's
pub registered_text : (entries : List Entry) (d : Id) (by : Id × List ℕ) → AllByRecursion RegistersDeal entries → registration_of entries d ≡ Some by → (deal : DealTold) × IsTextOf deal by.1
registered_text [] d by deals e = absurd cc
registered_text (first ∷ entries) d by deals e = go (registered_by d first) (entry_text_of d first by deals.0) (registered_text entries d by deals.1) e
  where
    go : (one : Option (Id × List ℕ)) → (one ≡ Some by → (deal : DealTold) × IsTextOf deal by.1) → (registration_of entries d ≡ Some by → (deal : DealTold) × IsTextOf deal by.1) → option_or one (registration_of entries d) ≡ Some by → (deal : DealTold) × IsTextOf deal by.1
    go None here there is = there is
    go (Some other) here there is = here is

-- ---- who is a party

index_is : (party : Id) (index : ℕ) (parties : List Party) → is_some (party_where (has_account party) index parties) ≡ is_in party (map (λ (p : Party). p.account) parties)
index_is party index [] = refl
index_is party index (first ∷ parties) = go (index_is party (index + 1) parties) (has_account party first)
  where
    go : is_some (party_where (has_account party) (index + 1) parties) ≡ is_in party (map (λ (p : Party). p.account) parties) → (here : Bool) →
        is_some (if here then Some index else party_where (has_account party) (index + 1) parties) ≡ (here || is_in party (map (λ (p : Party). p.account) parties))
    go rest true = refl
    go rest false = rest

-- what is read of a deal's text tells who is a party
pub party_told : (text : List ℕ) (party : Id) (deal : DealTold) → IsTextOf deal text → TellsParty text party (is_some (index_of_account deal.parties party))
party_told text party deal of other of_other =
    index_is party 0 deal.parties ∙ ap (λ (read : Result Draft DealFault). is_in party (accounts_in read)) (sym of.read)

-- what is a deal's text has no fault
pub no_fault : (text : List ℕ) (party : Id) (fault : DealFault) → (fault ≡ NoMemory → ⊥) → IsFaultOf text fault → TellsParty text party false
no_fault text party (NotConnected index) apart fault deal of =
    let same : Ok fault.draft ≡ Ok (draft_of deal) = sym fault.read ∙ of.read in
    let draft : fault.draft ≡ draft_of deal = cc in
    let first = fault.first in
    let within : index < length deal.parties = subst (λ (d : Draft). index < length d.parties) draft first.0 in
    let some : 0 < length deal.parties = omega (arith, of.kept.parties) in
    absurd (first.1 (subst (λ (d : Draft). IsJoined d.steps index) (sym draft) (of.kept.connected 0 index some within, of.kept.connected index 0 within some)))
no_fault text party NoMemory apart fault deal of = absurd (apart refl)
no_fault text party (BadLine line) apart fault deal of = let clash : Err (BadLine line) ≡ Ok (draft_of deal) = sym fault ∙ of.read in absurd cc
no_fault text party (PartyTwice line) apart fault deal of = let clash : Err (PartyTwice line) ≡ Ok (draft_of deal) = sym fault ∙ of.read in absurd cc
no_fault text party (UnknownParty line) apart fault deal of = let clash : Err (UnknownParty line) ≡ Ok (draft_of deal) = sym fault ∙ of.read in absurd cc
no_fault text party (SelfStep line) apart fault deal of = let clash : Err (SelfStep line) ≡ Ok (draft_of deal) = sym fault ∙ of.read in absurd cc
no_fault text party (ZeroAmount line) apart fault deal of = let clash : Err (ZeroAmount line) ≡ Ok (draft_of deal) = sym fault ∙ of.read in absurd cc
no_fault text party (TooMany line) apart fault deal of = let clash : Err (TooMany line) ≡ Ok (draft_of deal) = sym fault ∙ of.read in absurd cc
no_fault text party (SumTooLarge line) apart fault deal of = let clash : Err (SumTooLarge line) ≡ Ok (draft_of deal) = sym fault ∙ of.read in absurd cc

-- what is told where the text was not read
pub fault_told : (text : List ℕ) (party : Id) (fault : DealFault) (result : Result Bool NoMemoryFault) → IfOk result (λ is. (is ≡ false) × (fault ≡ NoMemory → ⊥)) → IsFaultOf text fault → IfOk result (TellsParty text party)
fault_told text party fault (Ok is) told of = subst (TellsParty text party) (sym told.0) (no_fault text party fault told.1 of)
fault_told text party fault (Err starved) told of = tt
