-- What is known of a keeper.
use Rattle.std.specs.Prelude.{ℕ, ◌≡◌, ◌⊎◌, ◌≤◌, ◌+◌, Bool, true, false, Option, Some, None, IfSome}
use Rattle.keeper_core.specs.declared.arm.Arm.{Arm}
use Rattle.keeper_core.specs.declared.arm.Arm.TheVariants.{FailNext, StopBefore}
use Rattle.keeper_core.specs.Tables.{Tables}

-- A call says what it changes by an update of this record, so that a further member changes no such
-- sentence.
pub record Known : Type 0 where
  -- the map, where it is told
  pub tables : Option Tables
  pub stopped : Bool
  -- how many calls have failed
  pub faults : ℕ
  -- how many rows were looked up
  pub looked : ℕ
  -- what is to come, where it is told: `Some None` where nothing is
  pub coming : Option (Option Arm)

-- the next call fails, whichever it is
abbrev pub FailsNext : Known → Type 0
FailsNext known = (known.stopped ≡ true) ⊎ (known.coming ≡ Some (Some FailNext))

-- The next commit fails, whatever memory there is: the next call fails, or a stop before the next
-- commit is told to come.
abbrev pub FailsCommit : Known → Type 0
FailsCommit known = FailsNext known ⊎ (known.coming ≡ Some (Some StopBefore))

-- The keeper runs, and it is told that nothing is to come.
abbrev pub IsUnarmed : Known → Type 0
IsUnarmed known = (known.stopped ≡ false) × (known.coming ≡ Some None)

-- the count of look-ups never falls, and rises by at most so many
abbrev pub LooksAtMost : ℕ → Known → Known → Type 0
LooksAtMost n before after = (before.looked ≤ after.looked) × (after.looked ≤ before.looked + n)

-- a keeper that was just given: it runs, no call of it has failed, and no failure or stop is told
-- to come
abbrev pub IsFresh : Known → Type 0
IsFresh known = (known.stopped ≡ false) × (known.faults ≡ 0)
    × IfSome known.coming (λ armed. armed ≡ None)
