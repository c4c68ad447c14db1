-- A deal in which a party sees all that it is owed before it has made its own step.
use Rattle.std.specs.Prelude.{ℕ, ◌≡◌, None, List, [], ◌∷◌}
use Rattle.deal_core.specs.Deals.{DealTold}
use Rattle.deal_core.specs.declared.step.Step.{Step}
use Rattle.clear_core.specs.declared.plan_act.PlanAct.TheVariants.{Transfer}
use Rattle.escrow_book.specs.Opening.{Row}
use Rattle.ledger_rows.specs.declared.entry.Entry.{Entry}
use Rattle.ledger_rows.specs.Entries.{used_of}
use Rattle.joined_deals.specs.DealTexts.{account_of}
use Rattle.compliant_deals.specs.Parts.{act_by}
use Rattle.compliant_deals.specs.Complying.{ComplyTo, entry_of}

-- party 1 gives party 0 an amount of the asset
abbrev pub giving : List ℕ → List ℕ → ℕ → Step
giving ledger asset amount =
    record { from = 1; to = 0; ledger = ledger; asset = asset; amount = amount }

-- party 0 gives it back
abbrev pub returning : List ℕ → List ℕ → ℕ → Step
returning ledger asset amount =
    record { from = 0; to = 1; ledger = ledger; asset = asset; amount = amount }

-- party 1 gives, party 0 returns, and party 1 gives again
abbrev pub loan : List ℕ → List ℕ → ℕ → List Step
loan ledger asset amount =
    giving ledger asset amount ∷ returning ledger asset amount ∷ giving ledger asset amount ∷ []

-- In a deal of these steps all have done their parts up to the first step; and party 0 has a key
-- that no entry has.
pub record HasGiven (deal : DealTold) (ledger asset : List ℕ) (amount : ℕ) (rows : List Row)
    (entries : List Entry) (q : ℕ) : Type 0 where
  pub steps : deal.steps ≡ loan ledger asset amount
  pub front : ComplyTo deal (giving ledger asset amount ∷ []) ledger rows entries
  pub free : used_of entries (account_of deal.parties 0) q ≡ None

-- party 0's own transfer, under that key
abbrev pub return_entry : DealTold → List ℕ → List ℕ → ℕ → ℕ → Entry
return_entry deal ledger asset amount q =
    entry_of deal (act_by 0 (Transfer ledger 0 1 asset amount)) q
