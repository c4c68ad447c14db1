-- What a deal takes from each party and what it owes each.
use Rattle.std.specs.Prelude.{ℕ, ◌+◌, ◌-◌, zero, suc, Bool, ◌&&◌, ◌==◌, List, length, take, max}
use Rattle.std.specs.List.{count_by}
use Rattle.std.specs.Str.{bytes_eq}
use Rattle.deal_core.specs.Deals.{is_of, amount_where}
use Rattle.deal_core.specs.declared.step.Step.{Step}

-- ---- what goes out and what comes in

abbrev pub is_out : ℕ → List ℕ → List ℕ → Step → Bool
is_out party ledger asset step = party == step.from && is_of ledger asset step

abbrev pub is_in : ℕ → List ℕ → List ℕ → Step → Bool
is_in party ledger asset step = party == step.to && is_of ledger asset step

-- what the party passes on of the asset on the ledger
abbrev pub outgoing : List Step → ℕ → List ℕ → List ℕ → ℕ
outgoing steps party ledger asset = amount_where (is_out party ledger asset) steps

-- what the party receives of it
abbrev pub incoming : List Step → ℕ → List ℕ → List ℕ → ℕ
incoming steps party ledger asset = amount_where (is_in party ledger asset) steps

-- ---- need and due

-- by how much, after the first n steps, more has gone out than come in; 0 where it is no more
abbrev pub excess : List Step → ℕ → List ℕ → List ℕ → ℕ → ℕ
excess steps party ledger asset n =
    outgoing (take n steps) party ledger asset - incoming (take n steps) party ledger asset

-- the greatest of the values at 0 to n
abbrev pub greatest_to : (ℕ → ℕ) → ℕ → ℕ
greatest_to value zero = value 0
greatest_to value (suc n) = max (greatest_to value n) (value (suc n))

-- the greatest excess over all prefixes of the steps
abbrev pub need_of : List Step → ℕ → List ℕ → List ℕ → ℕ
need_of steps party ledger asset = greatest_to (excess steps party ledger asset) (length steps)

-- what the deal owes the party: its need and all that comes in, less all that goes out
abbrev pub due_of : List Step → ℕ → List ℕ → List ℕ → ℕ
due_of steps party ledger asset =
    need_of steps party ledger asset + incoming steps party ledger asset
    - outgoing steps party ledger asset

-- ---- turns

abbrev pub is_turn : ℕ → List ℕ → Step → Bool
is_turn party ledger step = party == step.from && bytes_eq ledger step.ledger

-- how many of the steps are the party's own on the ledger
abbrev pub turns_of : List Step → ℕ → List ℕ → ℕ
turns_of steps party ledger = count_by (is_turn party ledger) steps
