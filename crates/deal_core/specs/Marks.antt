-- Marks of the parties that are reached from party 0, or that reach it.
use Rattle.std.specs.Prelude.{ℕ, ◌≡◌, ◌<◌, Bool, true, false, List, slice_index_or}
use Rattle.std.specs.List.{Contains}
use Rattle.dh_base.specs.Limits.{most_parties}
use Rattle.deal_core.specs.Deals.{Reaches}
use Rattle.deal_core.specs.declared.step.Step.{Step}
use Rattle.deal_core.specs.declared.reach.Way.{Way}
use Rattle.deal_core.specs.declared.reach.Way.TheVariants.{From, To}

abbrev pub near : Way → Step → ℕ
near From step = step.from
near To step = step.to

abbrev pub far : Way → Step → ℕ
far From step = step.to
far To step = step.from

-- party 0 reaches the party, or the party reaches party 0
abbrev pub IsOnWay : Way → List Step → ℕ → Type 0
IsOnWay From steps party = Reaches steps 0 party
IsOnWay To steps party = Reaches steps party 0

abbrev pub is_marked : List Bool → ℕ → Bool
is_marked marks party = slice_index_or marks party false

-- a party without a mark to which a step leads from one with a mark
abbrev pub IsNext : Way → List Step → List Bool → ℕ → Type 0
IsNext way steps marks party =
    (step : Step) × Contains steps step × (is_marked marks (near way step) ≡ true)
    × (is_marked marks party ≡ false) × (far way step ≡ party) × (party < most_parties)

-- no step leads from a party with a mark to one without
abbrev pub IsClosed : Way → List Step → List Bool → Type 0
IsClosed way steps marks =
    (step : Step) → Contains steps step → is_marked marks (near way step) ≡ true
    → is_marked marks (far way step) ≡ true

-- exactly the parties on the way are marked
abbrev pub AreMarks : Way → List Step → List Bool → Type 0
AreMarks way steps marks =
    (party : ℕ) → (is_marked marks party ≡ true → IsOnWay way steps party)
    × (IsOnWay way steps party → is_marked marks party ≡ true)
