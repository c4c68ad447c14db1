-- When a party has seen that a deal is right: the validated deal.
use Rattle.std.specs.Prelude.{ℕ, ◌≡◌, ◌≤◌, ◌<◌, List, Some, None, IsTrue}
use Rattle.std.specs.List.{AllByRecursion}
use Rattle.act_text.specs.declared.statement.Statement.{Statement}
use Rattle.clear_core.specs.Clearing.{due_of, turns_of}
use Rattle.joined_deals.specs.DealTexts.{JoinedTold, plan_texts}
use Rattle.joined_deals.specs.Signed.{is_signed}
use Rattle.joined_deals.specs.Heard.{kept_of, listed_of}

-- what the deal owes the party of the asset on the ledger
abbrev pub due_in : JoinedTold → List ℕ → List ℕ → ℕ
due_in joined ledger asset = due_of joined.deal.steps joined.index ledger asset

-- The kept statement of the ledger is open, all turns of the party are made, and it lists what is
-- due of each asset.
pub record IsSeenOn (heard : List Statement) (joined : JoinedTold) (ledger : List ℕ) : Type 0 where
  pub statement : Statement
  pub kept : kept_of heard joined.deal.id ledger ≡ Some statement
  pub unsettled : statement.settled ≡ None
  pub moved : statement.moves ≡ turns_of joined.deal.steps joined.index ledger
  pub lists : (asset : List ℕ) → due_in joined ledger asset ≤ listed_of statement.rows asset

-- All acts of the plan are signed, and the deal is seen on each ledger on which something is due.
pub record IsValidated (signed : List (List ℕ)) (heard : List Statement)
    (joined : JoinedTold) : Type 0 where
  pub acts : AllByRecursion (λ text. IsTrue (is_signed signed text)) (plan_texts joined)
  pub seen : (ledger asset : List ℕ) → 0 < due_in joined ledger asset
      → IsSeenOn heard joined ledger
