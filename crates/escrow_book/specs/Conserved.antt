-- What the amounts of a book keep.
use Rattle.std.specs.Prelude.{ℕ, ◌≡◌, ◌+◌, ◌≤◌, Bool, if◌then◌else◌, is_some, IsTrue, List, [], ◌∷◌}
use Rattle.std.specs.List.{sum_by, count_by, list_all}
use Rattle.dh_base.specs.declared.id.Id.{Id}
use Rattle.escrow_book.specs.declared.change.Change.{Change}
use Rattle.escrow_book.specs.declared.change.Change.TheVariants.{Registered, Escrowed, Transferred, Paid, Settled}
use Rattle.dh_base.specs.Amounts.{greatest_amount}
use Rattle.escrow_book.specs.Opening.{total_of}
use Rattle.escrow_book.specs.History.{History, settlement, settlement_of, registration, is_in, deal_came, deal_went, if_commit_of, if_abort_of, free_came, free_went, free_of, moves_of}
use Rattle.escrow_book.specs.Base.{greatest_turn}
use Rattle.escrow_book.specs.Reached.{are_different}

-- what went is at most what came, so no difference is cut at 0
pub record NothingIsCut (history : History) : Type 0 where
  pub in_deals : (deal account : Id) (asset : List ℕ)
      → deal_went history deal account asset ≤ deal_came history deal account asset
  pub outside : (account : Id) (asset : List ℕ)
      → free_went history account asset ≤ free_came history account asset

-- the accounts that the change names
abbrev pub named : Change → List Id
named (Registered deal parties) = parties
named (Escrowed deal party asset amount) = party ∷ []
named (Transferred deal from to asset amount) = from ∷ to ∷ []
named (Paid from to asset amount) = from ∷ to ∷ []
named (Settled deal outcome) = []

abbrev pub are_in : List Id → List Id → Bool
are_in few accounts = list_all (λ account. is_in account accounts) few

-- the accounts are different, and each account that the history names is one of them
pub record AreItsAccounts (history : History) (accounts : List Id) : Type 0 where
  pub different : IsTrue (are_different accounts)
  pub of_rows : IsTrue (list_all (λ row. is_in row.0 accounts) history.opening)
  pub of_changes : IsTrue (list_all (λ change. are_in (named change) accounts) history.changes)

-- what the parties of the deal that the change registers own together, while it isn't settled
abbrev pub held_in : History → (Id → Id → ℕ) → Change → ℕ
held_in history owned (Registered deal parties) =
    if is_some (settlement_of history deal) then 0 else sum_by (owned deal) parties
held_in history owned _ = 0

-- what the parties of the deals that are registered and not settled own together
abbrev pub held_of : History → (Id → Id → ℕ) → ℕ
held_of history owned = sum_by (held_in history owned) history.changes

-- what the accounts can spend and what is owned in unsettled deals is what there was at the opening
pub record IsConserved (history : History) (accounts : List Id) (asset : List ℕ) : Type 0 where
  pub if_commit : sum_by (λ account. free_of history account asset) accounts
      + held_of history (λ deal account. if_commit_of history deal account asset)
      ≡ total_of history.opening asset
  pub if_abort : sum_by (λ account. free_of history account asset) accounts
      + held_of history (λ deal account. if_abort_of history deal account asset)
      ≡ total_of history.opening asset

-- no amount is above the greatest one, and a turn can count the moves
pub record IsWithinLimits (history : History) : Type 0 where
  pub free : (account : Id) (asset : List ℕ) → free_of history account asset ≤ greatest_amount
  pub if_commit : (deal account : Id) (asset : List ℕ)
      → if_commit_of history deal account asset ≤ greatest_amount
  pub if_abort : (deal account : Id) (asset : List ℕ)
      → if_abort_of history deal account asset ≤ greatest_amount
  pub moves : (deal account : Id) → moves_of history deal account ≤ greatest_turn

-- how many changes register the deal, and how many settle it
abbrev pub registrations_of : History → Id → ℕ
registrations_of history deal =
    count_by (λ change. is_some (registration deal change)) history.changes

abbrev pub settlements_of : History → Id → ℕ
settlements_of history deal = count_by (λ change. is_some (settlement deal change)) history.changes
