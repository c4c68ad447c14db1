-- Whether a deal keeps a party's terms, and the first limit that it breaks.
use Rattle.std.specs.Prelude.{ℕ, ◌≡◌, ◌≤◌, ◌<◌, Bool, ◌&&◌, nat_lt, if◌then◌else◌, List, Option, Some, None, Result, Ok, Err}
use Rattle.std.specs.List.{sum_by, find, Contains}
use Rattle.std.specs.Str.{bytes_eq}
use Rattle.std.specs.declared.cmp.Ordering.TheVariants.{Less}
use Rattle.deal_core.specs.declared.step.Step.{Step}
use Rattle.clear_core.specs.Clearing.{need_of, due_of}
use Rattle.clear_core.specs.Pairs.{pair_of, pair_cmp, is_earlier}
use Rattle.clear_core.specs.declared.limit.Limit.{Limit}
use Rattle.clear_core.specs.declared.pair.Pair.{Pair}
use Rattle.clear_core.specs.declared.term_fault.TermFault.{TermFault}
use Rattle.clear_core.specs.declared.term_fault.TermFault.TheVariants.{GivesMore, GetsLess}
use Rattle.clear_core.specs.declared.terms.Terms.{Terms}

abbrev pub allowance : List ℕ → List ℕ → Limit → ℕ
allowance ledger asset limit =
    if bytes_eq ledger limit.ledger && bytes_eq asset limit.asset then limit.amount else 0

-- what the limits allow together
abbrev pub allowed_of : List Limit → List ℕ → List ℕ → ℕ
allowed_of limits ledger asset = sum_by (allowance ledger asset) limits

-- the deal asks more of the pair than the limits allow
abbrev pub is_over : List Step → ℕ → List Limit → Pair → Bool
is_over steps party gives pair =
    nat_lt (allowed_of gives pair.ledger pair.asset) (need_of steps party pair.ledger pair.asset)

-- the pair of the step, where it is over and earlier than the one found, or that one
abbrev pub earlier_over : List Step → ℕ → List Limit → Step → Option Pair → Option Pair
earlier_over steps party gives step found =
    if is_over steps party gives (pair_of step) && is_earlier (pair_of step) found
    then Some (pair_of step)
    else found

-- no pair of the deal is over
abbrev pub NoneOver : List Step → ℕ → List Limit → Type 0
NoneOver steps party gives =
    (step : Step) → Contains steps step
    → need_of steps party step.ledger step.asset ≤ allowed_of gives step.ledger step.asset

-- the pair is over, and no pair of the deal before it is
pub record IsFirstOver (steps : List Step) (party : ℕ) (gives : List Limit)
    (pair : Pair) : Type 0 where
  pub step : Step
  pub of_deal : Contains steps step
  pub pair_is : pair_of step ≡ pair
  pub over : allowed_of gives pair.ledger pair.asset < need_of steps party pair.ledger pair.asset
  pub first : (other : Step) → Contains steps other → pair_cmp (pair_of other) pair ≡ Less
      → need_of steps party other.ledger other.asset ≤ allowed_of gives other.ledger other.asset

-- the deal owes less than the limit
abbrev pub is_under : List Step → ℕ → Limit → Bool
is_under steps party limit = nat_lt (due_of steps party limit.ledger limit.asset) limit.amount

-- What checking answers: the terms are kept; or the first pair of the deal of which it asks too
-- much; or, where none is, the first limit that it owes too little of.
abbrev pub ChecksTerms : List Step → ℕ → Terms → Result (Unit {0}) TermFault → Type 0
ChecksTerms steps party terms (Ok _) =
    NoneOver steps party terms.gives × (find (is_under steps party) terms.gets ≡ None)
ChecksTerms steps party terms (Err (GivesMore ledger asset asked allowed)) =
    IsFirstOver steps party terms.gives (record { ledger = ledger; asset = asset })
    × (asked ≡ need_of steps party ledger asset) × (allowed ≡ allowed_of terms.gives ledger asset)
ChecksTerms steps party terms (Err (GetsLess ledger asset offered wanted)) =
    NoneOver steps party terms.gives
    × (find (is_under steps party) terms.gets
    ≡ Some (record { ledger = ledger; asset = asset; amount = wanted }))
    × (offered ≡ due_of steps party ledger asset)
