-- What every deal keeps.
use Rattle.std.specs.Prelude.{ℕ, ◌≡◌, ◌+◌, ◌<◌, ◌≤◌, ◌^◌, Bool, false, if◌then◌else◌, List, [], ◌∷◌, ◌++◌, length}
use Rattle.std.specs.List.{list_any, AllByRecursion}
use Rattle.std.specs.Str.{bytes_eq}
use Rattle.sha2.specs.Sha256.{sha256}
use Rattle.dh_base.specs.Limits.{most_parties}
use Rattle.deal_core.specs.Deals.{DealTold, is_named, has_account, total_of, IsConnected}
use Rattle.deal_core.specs.DealText.{deal_text}
use Rattle.deal_core.specs.Limits.{most_steps, most_ledgers}
use Rattle.deal_core.specs.declared.party.Party.{Party}
use Rattle.deal_core.specs.declared.step.Step.{Step}

-- Each of the parties has another name and another account than those before it.
abbrev pub AreNewBehind : List Party → List Party → Type 0
AreNewBehind before [] = Unit {0}
AreNewBehind before (party ∷ parties) =
    (list_any (is_named party.name) before ≡ false)
    × (list_any (has_account party.account) before ≡ false)
    × AreNewBehind (before ++ party ∷ []) parties

-- one of the steps is on this ledger
abbrev pub is_on : List Step → List ℕ → Bool
is_on steps ledger = list_any (λ step. bytes_eq ledger step.ledger) steps

-- how many of the steps are on a ledger that no step before them is on
abbrev pub new_ledgers : List Step → List Step → ℕ
new_ledgers before [] = 0
new_ledgers before (step ∷ steps) =
    (if is_on before step.ledger then 0 else 1) + new_ledgers (before ++ step ∷ []) steps

-- how many ledgers the steps name
abbrev pub ledger_count : List Step → ℕ
ledger_count steps = new_ledgers [] steps

-- a step between two different parties, of which there are so many, that moves something
pub record IsStepOf (parties : ℕ) (step : Step) : Type 0 where
  pub from : step.from < parties
  pub to : step.to < parties
  pub different : (step.from ≡ step.to) → ⊥
  pub some : 0 < step.amount

-- what the parties and the steps of a deal keep, also while their lines are read
pub record IsDraft (parties : List Party) (steps : List Step) : Type 0 where
  pub few_parties : length parties ≤ most_parties
  pub different : AreNewBehind [] parties
  pub few_steps : length steps ≤ most_steps
  pub between : AllByRecursion (IsStepOf (length parties)) steps
  pub few_ledgers : ledger_count steps ≤ most_ledgers
  pub totals : (ledger asset : List ℕ) → total_of steps ledger asset < 2 ^ 63

pub record IsDeal (deal : DealTold) : Type 0 where
  pub parties : 2 ≤ length deal.parties
  pub steps : 1 ≤ length deal.steps
  pub kept : IsDraft deal.parties deal.steps
  pub connected : IsConnected deal.steps (length deal.parties)
  pub id : deal.id.0 ≡ sha256 (deal_text deal)
