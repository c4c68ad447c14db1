-- What a ledger tells a party of a deal.
use Rattle.std.specs.Prelude.{ℕ, ◌≡◌, Bool, if◌then◌else◌, List, Option, Some, None}
use Rattle.act_text.specs.declared.statement.Statement.{Statement}
use Rattle.deal_core.specs.Deals.{DealTold}
use Rattle.deal_core.specs.Reading.{IsTextOf}
use Rattle.dh_base.specs.declared.id.Id.{Id}
use Rattle.escrow_book.specs.History.{History, is_in, if_commit_of, moves_of, settlement_of}
use Rattle.ledger_rows.specs.declared.entry.Entry.{Entry}
use Rattle.ledger_rows.specs.Entries.{parties_in, registration_of}
use Rattle.ledger_rows.specs.Scanning.{some_of, AreAmounts}
use Rattle.ledger_core.specs.declared.ask_fault.AskFault.{AskFault}
use Rattle.ledger_core.specs.declared.ask_fault.AskFault.TheVariants.{UnknownDeal, NotAParty}
use Rattle.ledger_core.specs.declared.asking.Owned.{Owned}
use Rattle.ledger_core.specs.declared.asking.Standing.{Standing}
use Rattle.ledger_core.specs.Ledgers.{LedgerTold}

-- the text is a deal's, and this says whether the account is a party of it
abbrev pub TellsParty : List ℕ → Id → Bool → Type 0
TellsParty text party is =
    (deal : DealTold) → IsTextOf deal text → is ≡ is_in party (parties_in text)

abbrev pub not_a_party : Id → Option (Id × List ℕ) → Option AskFault
not_a_party party None = Some UnknownDeal
not_a_party party (Some by) =
    if is_in party (parties_in by.1) then None else Some (NotAParty party)

-- a statement is refused where no entry registers the deal, and where the account is no party of it
abbrev pub statement_refusal : Id → Id → List Entry → Option AskFault
statement_refusal deal party entries = not_a_party party (registration_of entries deal)

-- how many transfers the party has made in the deal, and what it owns there if the deal commits
pub record AreOwned (book : History) (deal party : Id) (owned : Owned) : Type 0 where
  pub moves : owned.moves ≡ moves_of book deal party
  pub amounts : AreAmounts (some_of (if_commit_of book deal party)) owned.rows

-- that, and how the deal has ended
pub record IsStanding (book : History) (deal party : Id) (standing : Standing) : Type 0 where
  pub settled : standing.settled ≡ settlement_of book deal
  pub owned : AreOwned book deal party standing.owned

-- The statement names the ledger, the deal and the party, and tells how many entries the ledger
-- has, what the party has made and owns, and how the deal has ended.
pub record IsStatement {K : Type 0} (ledger : LedgerTold K) (deal party : Id) (book : History)
    (statement : Statement) : Type 0 where
  pub house : statement.house ≡ ledger.house
  pub name : statement.ledger ≡ ledger.name
  pub deal_is : statement.deal ≡ deal
  pub party_is : statement.party ≡ party
  pub at : statement.at ≡ ledger.entries
  pub moves : statement.moves ≡ moves_of book deal party
  pub rows : AreAmounts (some_of (if_commit_of book deal party)) statement.rows
  pub settled : statement.settled ≡ settlement_of book deal
