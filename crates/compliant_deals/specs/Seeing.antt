-- What a party of a deal has signed and heard when all have done their parts.
use Rattle.std.specs.Prelude.{ℕ, ◌≡◌, IsTrue, Some, List, length}
use Rattle.std.specs.List.{Contains}
use Rattle.dh_base.specs.declared.id.Id.{Id}
use Rattle.act_text.specs.declared.statement.Statement.{Statement}
use Rattle.deal_core.specs.Kept.{is_on}
use Rattle.escrow_book.specs.Opening.{Row}
use Rattle.escrow_book.specs.History.{if_commit_of, moves_of, settlement_of}
use Rattle.ledger_rows.specs.declared.entry.Entry.{Entry}
use Rattle.ledger_rows.specs.Entries.{book_of}
use Rattle.ledger_rows.specs.Scanning.{some_of, AreAmounts}
use Rattle.joined_deals.specs.DealTexts.{JoinedTold, account_of, plan_texts}
use Rattle.joined_deals.specs.Heard.{kept_of}

-- the statement is what a ledger of that history says of the account in the deal
pub record IsStatementOf (rows : List Row) (entries : List Entry) (deal account : Id)
    (statement : Statement) : Type 0 where
  pub party : statement.party ≡ account
  pub at : statement.at ≡ length entries
  pub moves : statement.moves ≡ moves_of (book_of rows entries) deal account
  pub listed : AreAmounts (some_of (if_commit_of (book_of rows entries) deal account))
      statement.rows
  pub settled : statement.settled ≡ settlement_of (book_of rows entries) deal

-- The kept statement of the ledger is what it says at the end.
pub record HasHeard (heard : List Statement) (joined : JoinedTold) (ledger : List ℕ)
    (rows : List Row) (entries : List Entry) : Type 0 where
  pub statement : Statement
  pub kept : kept_of heard joined.deal.id ledger ≡ Some statement
  pub says : IsStatementOf rows entries joined.deal.id
      (account_of joined.deal.parties joined.index) statement

-- It is so of each ledger that the steps name.
abbrev pub HasHeardEach : List Statement → JoinedTold → (List ℕ → List Row)
    → (List ℕ → List Entry) → Type 0
HasHeardEach heard joined rows entries = (ledger : List ℕ)
    → IsTrue (is_on joined.deal.steps ledger)
    → HasHeard heard joined ledger (rows ledger) (entries ledger)

-- all acts of the plan are signed
abbrev pub HasSignedPlan : List (List ℕ) → JoinedTold → Type 0
HasSignedPlan signed joined = (text : List ℕ) → Contains (plan_texts joined) text
    → Contains signed text
