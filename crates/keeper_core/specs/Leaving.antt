-- What a call leaves of a keeper for which it commits batches, one after another.
use Rattle.std.specs.Prelude.{ℕ, ◌≡◌, ◌⊎◌, ◌≤◌, Bool, true, false, List, [], ◌∷◌, ◌++◌, Option, Some, None, IfSome, Result, Ok, Err}
use Rattle.std.specs.Option.{option_map}
use Rattle.dh_base.specs.Faults.{HasRisen}
use Rattle.keeper_core.specs.declared.arm.Arm.{Arm}
use Rattle.keeper_core.specs.declared.arm.Arm.TheVariants.{FailNext, StopBefore, StopAfter}
use Rattle.keeper_core.specs.declared.change.Change.{Change}
use Rattle.keeper_core.specs.declared.keep_fault.KeepFault.{KeepFault}
use Rattle.keeper_core.specs.declared.keep_fault.KeepFault.TheVariants.{Failed, NoMemory}
use Rattle.keeper_core.specs.declared.store_fault.StoreFault.{StoreFault}
use Rattle.keeper_core.specs.declared.store_fault.StoreFault.TheVariants.{Keeper, BadRow, NoMemory as StoreNoMemory}
use Rattle.keeper_core.specs.Tables.{Tables}
use Rattle.keeper_core.specs.Batches.{after_batch}
use Rattle.keeper_core.specs.Knowing.{Known}

-- how a call over a keeper ended: `failed` where the keeper failed it, `starved` for want of
-- memory, `refused` for any other cause
pub data Ended : Type 0 where
  done : Ended
  failed : Ended
  starved : Ended
  refused : Ended

abbrev pub ended : {A E : Type 0} → (E → Ended) → Result A E → Ended
ended by_fault (Ok x) = done
ended by_fault (Err fault) = by_fault fault

abbrev pub of_keep_fault : KeepFault → Ended
of_keep_fault Failed = failed
of_keep_fault NoMemory = starved

abbrev pub of_store_fault : StoreFault → Ended
of_store_fault Keeper = failed
of_store_fault (BadRow tab key) = refused
of_store_fault StoreNoMemory = starved

-- the batches, one after another
abbrev pub after_batches : List (List Change) → Tables → Tables
after_batches [] tables = tables
after_batches (batch ∷ batches) tables = after_batches batches (after_batch batch tables)

-- the same map, where it is still told
abbrev pub KeepsTold : Option Tables → Option Tables → Type 0
KeepsTold before after = IfSome after (λ _. after ≡ before)

-- All batches are made, where the map is still told. A map that is not told stays untold.
abbrev pub Applies : Option Tables → List (List Change) → Option Tables → Type 0
Applies before batches after = IfSome after (λ _. after ≡ option_map (after_batches batches) before)

-- A front of the batches is made. That is not all of them, unless there are none or the keeper
-- stopped.
pub record AppliesFront (halts : Type 0) (before : Option Tables) (batches : List (List Change))
    (after : Option Tables) : Type 0 where
  pub made : List (List Change)
  pub left : List (List Change)
  pub parted : batches ≡ made ++ left
  pub applies : Applies before made after
  pub short : left ≡ [] → (batches ≡ []) ⊎ halts

-- the keeper stopped by the call
abbrev pub Halts : Known → Known → Type 0
Halts before after = (before.stopped ≡ false) × (after.stopped ≡ true)

-- The call changed at most the map and the count of look-ups.
abbrev pub IsQuiet : Known → Known → Type 0
IsQuiet before after = after ≡ record before { tables = after.tables; looked = after.looked }

-- Only a keeper that runs makes batches, and only where no failure or stop is told to come.
abbrev pub RunsFor : List (List Change) → Known → Type 0
RunsFor [] known = Unit {0}
RunsFor (batch ∷ batches) known = (known.stopped ≡ false)
    × IfSome known.coming (λ armed. armed ≡ None)

pub record IsDone (batches : List (List Change)) (before after : Known) : Type 0 where
  pub applies : Applies before.tables batches after.tables
  pub quiet : IsQuiet before after
  pub runs : RunsFor batches before

-- the first of the batches is made
abbrev pub AppliesFirst : Option Tables → List (List Change) → Option Tables → Type 0
AppliesFirst before [] after = ⊥
AppliesFirst before (batch ∷ batches) after = Applies before (batch ∷ []) after

-- the keeper, which ran, stopped, and nothing is to come
abbrev pub StopsAs : Known → Known → Type 0 → Type 0
StopsAs before after left = before.stopped ≡ false →
    (after.stopped ≡ true) × (after.coming ≡ Some None) × left

-- what a failure is where it was told what was to come
abbrev pub FailsBy : Option Arm → List (List Change) → Known → Known → Type 0
FailsBy None batches before after = (before.stopped ≡ true) × (after.coming ≡ Some None)
FailsBy (Some FailNext) batches before after = (after.stopped ≡ before.stopped)
    × (after.coming ≡ Some None) × KeepsTold before.tables after.tables
FailsBy (Some StopBefore) batches before after = StopsAs before after
    (KeepsTold before.tables after.tables)
FailsBy (Some StopAfter) batches before after = StopsAs before after
    (AppliesFirst before.tables batches after.tables)

-- A keeper stops only at a commit.
abbrev pub StopsOnlyFor : List (List Change) → Known → Known → Type 0
StopsOnlyFor [] before after = after.stopped ≡ before.stopped
StopsOnlyFor (batch ∷ batches) before after = Unit {0}

pub record IsFailed (batches : List (List Change)) (before after : Known) : Type 0 where
  pub front : AppliesFront (Halts before after) before.tables batches after.tables
  pub risen : HasRisen before.faults after.faults
  pub count : before.faults ≤ after.faults
  -- a stopped keeper stays so, and keeps its map
  pub stays : before.stopped ≡ true → (after.stopped ≡ true) × KeepsTold before.tables after.tables
  pub stops : StopsOnlyFor batches before after
  pub foretold : IfSome before.coming (λ armed. FailsBy armed batches before after)

pub record IsStarved (batches : List (List Change)) (before after : Known) : Type 0 where
  pub front : AppliesFront ⊥ before.tables batches after.tables
  pub quiet : IsQuiet before after

pub record IsRefused (before after : Known) : Type 0 where
  pub unchanged : KeepsTold before.tables after.tables
  pub quiet : IsQuiet before after

-- What a call that commits these batches, in this order, leaves of its keeper. Where a call reads
-- behind its last commit, a batch of no changes stands for what it reads.
abbrev pub Leaves : List (List Change) → Ended → Known → Known → Type 0
Leaves batches done before after = IsDone batches before after
Leaves batches failed before after = IsFailed batches before after
Leaves batches starved before after = IsStarved batches before after
Leaves batches refused before after = IsRefused before after
