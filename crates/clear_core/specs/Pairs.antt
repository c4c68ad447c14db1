-- The ledgers and assets that a deal moves.
use Rattle.std.specs.Prelude.{◌≡◌, Bool, true, Option, Some, None, List, [], ◌∷◌, fold, map}
use Rattle.std.specs.List.{Contains, AllByRecursion}
use Rattle.std.specs.declared.cmp.Ordering.{Ordering}
use Rattle.std.specs.declared.cmp.Ordering.TheVariants.{Less}
use Rattle.std.specs.Ordering.{ordering_then, is_lt, nat_cmp}
use Rattle.std.specs.Cmp.Lexicographic.{slice_cmp}
use Rattle.std.specs.BTreeSet.{insert_key}
use Rattle.deal_core.specs.declared.step.Step.{Step}
use Rattle.clear_core.specs.declared.pair.Pair.{Pair}

abbrev pub pair_of : Step → Pair
pair_of step = record { ledger = step.ledger; asset = step.asset }

-- by the ledger, and then by the asset
abbrev pub pair_cmp : Pair → Pair → Ordering
pair_cmp a b =
    ordering_then (slice_cmp nat_cmp a.ledger b.ledger) (slice_cmp nat_cmp a.asset b.asset)

-- the pair stands before the other, if there is one
abbrev pub is_earlier : Pair → Option Pair → Bool
is_earlier pair None = true
is_earlier pair (Some other) = is_lt (pair_cmp pair other)

-- the pairs that the steps move, in ascending order, once each
abbrev pub pairs_of : List Step → List Pair
pairs_of steps = fold (insert_key pair_cmp) [] (map pair_of steps)

-- a step moves the pair
abbrev pub IsMoved : List Step → Pair → Type 0
IsMoved steps pair = (step : Step) × Contains steps step × (pair_of step ≡ pair)

-- each pair stands before all behind it
abbrev pub Ascend : List Pair → Type 0
Ascend [] = Unit {0}
Ascend (pair ∷ pairs) = AllByRecursion (λ next. pair_cmp pair next ≡ Less) pairs × Ascend pairs
