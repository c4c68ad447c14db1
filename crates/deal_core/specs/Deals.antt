-- Deals: parties, and steps in an order, each of which passes an amount of an asset on a ledger
-- from one party to another.
use Rattle.std.specs.Prelude.{ℕ, ◌≡◌, ◌+◌, ◌<◌, Bool, ◌&&◌, ◌==◌, if◌then◌else◌, List, [], ◌∷◌, Option, Some, None}
use Rattle.std.specs.List.{sum_by, Contains, AllByRecursion}
use Rattle.std.specs.Str.{bytes_eq}
use Rattle.dh_base.specs.declared.id.Id.{Id}
use Rattle.dh_base.specs.Ids.{same_id}
use Rattle.deal_core.specs.declared.party.Party.{Party}
use Rattle.deal_core.specs.declared.step.Step.{Step}

pub record DealTold : Type 0 where
  pub id : Id
  pub house : Id
  pub name : List ℕ
  pub parties : List Party
  pub steps : List Step

-- ---- the matrix

-- the step moves this asset on this ledger
abbrev pub is_of : List ℕ → List ℕ → Step → Bool
is_of ledger asset step = bytes_eq ledger step.ledger && bytes_eq asset step.asset

abbrev pub is_between : ℕ → ℕ → List ℕ → List ℕ → Step → Bool
is_between from to ledger asset step =
    from == step.from && (to == step.to && is_of ledger asset step)

-- the amount of a step that passes the test, and else nothing
abbrev pub amount_if : (Step → Bool) → Step → ℕ
amount_if test step = if test step then step.amount else 0

-- the sum of the steps that pass the test
abbrev pub amount_where : (Step → Bool) → List Step → ℕ
amount_where test steps = sum_by (amount_if test) steps

-- what the steps move of an asset on a ledger in all
abbrev pub total_of : List Step → List ℕ → List ℕ → ℕ
total_of steps ledger asset = amount_where (is_of ledger asset) steps

-- the entry of the matrix: what one party passes to another
abbrev pub matrix_of : List Step → ℕ → ℕ → List ℕ → List ℕ → ℕ
matrix_of steps from to ledger asset = amount_where (is_between from to ledger asset) steps

-- ---- who is reached from whom

-- The steps lead from one party to another: each begins where the one before it ends.
abbrev pub Leads : List Step → ℕ → ℕ → Type 0
Leads [] from to = from ≡ to
Leads (step ∷ walk) from to = (step.from ≡ from) × Leads walk step.to to

-- A walk along steps of the deal leads from one party to the other.
abbrev pub Reaches : List Step → ℕ → ℕ → Type 0
Reaches steps from to =
    (walk : List Step) × AllByRecursion (Contains steps) walk × Leads walk from to

-- Of so many parties each reaches each other one.
abbrev pub IsConnected : List Step → ℕ → Type 0
IsConnected steps parties = (from to : ℕ) → from < parties → to < parties → Reaches steps from to

-- Party 0 reaches the party, and the party reaches party 0.
abbrev pub IsJoined : List Step → ℕ → Type 0
IsJoined steps party = Reaches steps 0 party × Reaches steps party 0

-- Of so many parties this is the first that isn't reached from party 0 or doesn't reach it.
abbrev pub IsFirstApart : List Step → ℕ → ℕ → Type 0
IsFirstApart steps parties party =
    (party < parties) × (IsJoined steps party → ⊥)
    × ((other : ℕ) → other < party → IsJoined steps other)

-- ---- the indices of parties

-- the index of the first party that passes the test, where the first party has the index `index`
abbrev pub party_where : (Party → Bool) → ℕ → List Party → Option ℕ
party_where test index [] = None
party_where test index (party ∷ parties) =
    if test party then Some index else party_where test (index + 1) parties

abbrev pub is_named : List ℕ → Party → Bool
is_named name party = bytes_eq name party.name

abbrev pub has_account : Id → Party → Bool
has_account account party = same_id account party.account

abbrev pub index_of_name : List Party → List ℕ → Option ℕ
index_of_name parties name = party_where (is_named name) 0 parties

abbrev pub index_of_account : List Party → Id → Option ℕ
index_of_account parties account = party_where (has_account account) 0 parties
