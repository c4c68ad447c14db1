-- The parties and steps of the deals of a house.
use Rattle.std.specs.Prelude.{ℕ, ◌+◌, ◌<◌, Bool, true, not, ◌&&◌, nat_lt, nat_le, if◌then◌else◌, List, [], ◌∷◌, length, position}
use Rattle.std.specs.List.{list_all, flat_map}
use Rattle.std.specs.Option.{unwrap_or}
use Rattle.std.specs.Str.{bytes_eq}
use Rattle.dh_base.specs.Amounts.{greatest_amount}
use Rattle.dh_base.specs.Limits.{most_parties}
use Rattle.deal_core.specs.Deals.{total_of}
use Rattle.deal_core.specs.Drafts.{is_ninth, is_empty}
use Rattle.deal_core.specs.Limits.{most_steps}
use Rattle.deal_core.specs.declared.step.Step.{Step}
use Rattle.house_grammar.specs.declared.declaration.Declaration.{Declaration}
use Rattle.house_grammar.specs.declared.declaration.Declaration.TheVariants as line
use Rattle.house_deals.specs.Connected.{is_connected}
use Rattle.house_deals.specs.Different.{is_among, are_different}

-- the parties of the deal of this name, in their order; none where there is no such deal
abbrev pub members_of : List Declaration → List ℕ → List (List ℕ)
members_of [] deal = []
members_of (line.Deal name parties ∷ ds) deal =
    if bytes_eq deal name then parties else members_of ds deal
members_of (other ∷ ds) deal = members_of ds deal

-- the index of the member with the name, and 0 where none has it
abbrev pub index_in : List (List ℕ) → List ℕ → ℕ
index_in members name = unwrap_or (position (bytes_eq name) members) 0

-- the step of the deal that a declaration is, if it is one
abbrev pub step_by : List ℕ → List (List ℕ) → Declaration → List Step
step_by deal members (line.Step own from to ledger asset amount) =
    if bytes_eq deal own then
    record {
      from = index_in members from;
      to = index_in members to;
      ledger = ledger;
      asset = asset;
      amount = amount;
    } ∷ []
    else []
step_by deal members other = []

abbrev pub steps_among : List Declaration → List ℕ → List (List ℕ) → List Step
steps_among ds deal members = flat_map (step_by deal members) ds

-- the steps of the deal, in the order of their lines, by the indices of its members
abbrev pub steps_of : List Declaration → List ℕ → List Step
steps_of ds deal = steps_among ds deal (members_of ds deal)

-- A step that a deal of these members may have behind these steps: it moves something from one
-- member to another, and is within the limits of a deal.
abbrev pub is_good_step : List (List ℕ) → List Step → List ℕ → List ℕ → List ℕ → List ℕ → ℕ → Bool
is_good_step members steps from to ledger asset amount =
    (is_among members from && is_among members to)
    && (not (bytes_eq from to) && (nat_lt 0 amount && (nat_lt (length steps) most_steps
    && (not (is_ninth steps ledger)
    && nat_le (total_of steps ledger asset + amount) greatest_amount))))

-- The members are different, there are steps, and along them each member reaches each other one.
abbrev pub is_whole_deal : List (List ℕ) → List Step → Bool
is_whole_deal members steps =
    are_different members
    && (not (is_empty steps) && is_connected steps (length members))

-- the deal of this name and these members is whole
abbrev pub is_whole_named : List Declaration → List ℕ → List (List ℕ) → Bool
is_whole_named ds name members =
    nat_le (length members) most_parties && is_whole_deal members (steps_among ds name members)

-- the declaration is no deal, or that of a whole one
abbrev pub is_whole_line : List Declaration → Declaration → Bool
is_whole_line ds (line.Deal name members) = is_whole_named ds name members
is_whole_line ds other = true

abbrev pub are_whole : List Declaration → Bool
are_whole ds = list_all (is_whole_line ds) ds

-- a step between two of so many parties
pub record IsWithin (parties : ℕ) (step : Step) : Type 0 where
  pub from : step.from < parties
  pub to : step.to < parties
