-- What reading a deal's text answers.
use Rattle.std.specs.Prelude.{ℕ, ◌≡◌, ◌≤◌, ◌⊎◌, List, length, Some, Result, Ok, Err}
use Rattle.dh_base.specs.declared.id.Id.{Id}
use Rattle.deal_core.specs.Deals.{DealTold, IsFirstApart}
use Rattle.deal_core.specs.DealText.{deal_text}
use Rattle.deal_core.specs.Kept.{IsDeal}
use Rattle.deal_core.specs.Drafts.{Draft, reading_of}
use Rattle.deal_core.specs.declared.deal_fault.DealFault.{DealFault}
use Rattle.deal_core.specs.declared.deal_fault.DealFault.TheVariants.{BadLine, PartyTwice, UnknownParty, SelfStep, ZeroAmount, TooMany, SumTooLarge, NotConnected, NoMemory}

-- what the lines of the deal's text come to
abbrev pub draft_of : DealTold → Draft
draft_of deal =
    record {
      name = Some deal.name;
      house = Some deal.house;
      parties = deal.parties;
      steps = deal.steps;
    }

-- The draft has what a deal has, and the text is what spells it.
pub record IsWholeText (draft : Draft) (text : List ℕ) : Type 0 where
  pub name : List ℕ
  pub house : Id
  pub named : draft.name ≡ Some name
  pub housed : draft.house ≡ Some house
  pub parties : 2 ≤ length draft.parties
  pub steps : 1 ≤ length draft.steps
  pub spelled : (id : Id)
      → text ≡ deal_text (record {
        id = id;
        house = house;
        name = name;
        parties = draft.parties;
        steps = draft.steps;
      })

-- The lines are good, and this is the first party that isn't reached from party 0 or doesn't reach
-- it.
pub record IsApart (text : List ℕ) (party : ℕ) : Type 0 where
  pub draft : Draft
  pub read : reading_of text ≡ Ok draft
  pub first : IsFirstApart draft.steps (length draft.parties) party

-- the fault is the text's; memory may run out at any text
abbrev pub IsFaultOf : List ℕ → DealFault → Type 0
IsFaultOf text (NotConnected party) = IsApart text party
IsFaultOf text NoMemory = Unit {0}
IsFaultOf text (BadLine line) = reading_of text ≡ Err (BadLine line)
IsFaultOf text (PartyTwice line) = reading_of text ≡ Err (PartyTwice line)
IsFaultOf text (UnknownParty line) = reading_of text ≡ Err (UnknownParty line)
IsFaultOf text (SelfStep line) = reading_of text ≡ Err (SelfStep line)
IsFaultOf text (ZeroAmount line) = reading_of text ≡ Err (ZeroAmount line)
IsFaultOf text (TooMany line) = reading_of text ≡ Err (TooMany line)
IsFaultOf text (SumTooLarge line) = reading_of text ≡ Err (SumTooLarge line)

-- the fault is that of a line; memory may run out at any text
abbrev pub IsLineFault : List ℕ → DealFault → Type 0
IsLineFault text NoMemory = Unit {0}
IsLineFault text fault = reading_of text ≡ Err fault

-- the text is the deal's
pub record IsTextOf (deal : DealTold) (text : List ℕ) : Type 0 where
  pub kept : IsDeal deal
  pub spelled : text ≡ deal_text deal
  pub read : reading_of text ≡ Ok (draft_of deal)

-- what reading the text may answer
abbrev pub Answers : List ℕ → Result DealTold DealFault → Type 0
Answers text (Ok deal) = IsTextOf deal text
Answers text (Err fault) = IsFaultOf text fault

-- the two answers are one, or memory ran out at one of them
abbrev pub AreOneAnswer : Result DealTold DealFault → Result DealTold DealFault → Type 0
AreOneAnswer one other = (one ≡ other) ⊎ ((one ≡ Err NoMemory) ⊎ (other ≡ Err NoMemory))
