-- A house as its ledgers and its compliant parties see it, and what was said of it.
use Rattle.std.specs.Prelude.{ℕ, ◌≡◌, Option, List, length}
use Rattle.std.specs.List.{Contains}
use Rattle.sha2.specs.Sha256.{sha256}
use Rattle.dh_base.specs.declared.id.Id.{Id}
use Rattle.act_text.specs.declared.statement.Statement.{Statement}
use Rattle.deal_core.specs.Deals.{DealTold}
use Rattle.deal_core.specs.DealText.{deal_text}
use Rattle.deal_core.specs.Reading.{IsTextOf}
use Rattle.escrow_book.specs.Opening.{Row}
use Rattle.escrow_book.specs.History.{History, if_commit_of, moves_of, settlement_of}
use Rattle.ledger_rows.specs.declared.entry.Entry.{Entry}
use Rattle.ledger_rows.specs.Entries.{book_of}
use Rattle.ledger_rows.specs.Scanning.{some_of, AreAmounts}
use Rattle.vote_log.specs.Entry.{Entry as Rec}
use Rattle.cert_core.specs.Sets.{SetTold}
use Rattle.claim_core.specs.declared.claim.Claim.{Claim}
use Rattle.payoff.specs.Agents.{AgentState}

-- the opening rows of a ledger, and its history
pub record LedgerState : Type 0 where
  pub rows : List Row
  pub entries : List Entry

abbrev pub book_in : LedgerState → History
book_in ledger = book_of ledger.rows ledger.entries

-- The set of epoch 0, the ledgers by their names, the compliant parties by their accounts; all
-- statements that a ledger has given, all deal texts that a request carried, all claims that were
-- shown, and all records that compliant seats entered into their lists.
pub record World : Type 0 where
  pub genesis : SetTold
  pub ledgers : List ℕ → Option LedgerState
  pub agents : Id → Option AgentState
  pub pool : List Statement
  pub texts : List (List ℕ)
  pub shown : List Claim
  pub entered : List Rec

-- no two different deal texts have one hash
abbrev pub HasOneText : World → Type 0
HasOneText w = (text other : List ℕ) → Contains w.texts text → Contains w.texts other
    → sha256 text ≡ sha256 other → text ≡ other

-- a deal whose text was carried
pub record IsRead (w : World) (deal : DealTold) : Type 0 where
  pub read : IsTextOf deal (deal_text deal)
  pub carried : Contains w.texts (deal_text deal)

-- the statement is what the ledger of that history says
pub record IsStatementOf (ledger : LedgerState) (s : Statement) : Type 0 where
  pub at : s.at ≡ length ledger.entries
  pub moves : s.moves ≡ moves_of (book_in ledger) s.deal s.party
  pub rows : AreAmounts (some_of (if_commit_of (book_in ledger) s.deal s.party)) s.rows
  pub settled : s.settled ≡ settlement_of (book_in ledger) s.deal
