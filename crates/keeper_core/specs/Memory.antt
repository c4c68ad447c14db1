-- A keeper in memory, which can be told to fail and to stop.
use Rattle.std.specs.Prelude.{ℕ, ◌+◌, ◌-◌, ◌^◌, min, Bool, true, false, ◌||◌, if◌then◌else◌, List, Option, Some, None}
use Rattle.std.proofs.Common.{refl}
use Rattle.std.specs.Coded.{Coded, code_by, coded×, coded_ℕ, coded_bool, coded_option}
use Rattle.dh_base.specs.Calls.{one_more}
use Rattle.keeper_core.specs.contracts.arm.Arm as arm
use Rattle.keeper_core.specs.declared.arm.Arm.{Arm}
use Rattle.keeper_core.specs.declared.arm.Arm.TheVariants.{FailNext, StopBefore, StopAfter}
use Rattle.keeper_core.specs.declared.change.Change.{Change}
use Rattle.keeper_core.specs.Tables.{Tables, tables_code}
use Rattle.keeper_core.specs.Knowing.{Known}
use Rattle.keeper_core.specs.Batches.{after_batch}

pub record KeeperTold : Type 0 where
  pub tables : Tables
  pub armed : Option Arm
  pub stopped : Bool
  pub faults : ℕ
  pub looked : ℕ

-- a keeper is stored as the tuple of its fields
abbrev pub keeper_code : Coded KeeperTold
keeper_code = code_by (Tables × (Option Arm × (Bool × (ℕ × ℕ))))
    (coded× tables_code (coded× (coded_option arm.the_row.coded)
    (coded× coded_bool (coded× coded_ℕ coded_ℕ))))
    (λ k. (k.tables, (k.armed, (k.stopped, (k.faults, k.looked)))))
    (λ p. record {
      tables = p.0;
      armed = p.1.0;
      stopped = p.1.1.0;
      faults = p.1.1.1.0;
      looked = p.1.1.1.1;
    })
    (λ _. refl)

-- what is known of a keeper in memory: it always tells its map and what is to come
abbrev pub known_of : KeeperTold → Known
known_of keeper =
    record {
      tables = Some keeper.tables;
      stopped = keeper.stopped;
      faults = keeper.faults;
      looked = keeper.looked;
      coming = Some keeper.armed;
    }

abbrev pub is_fail_next : Option Arm → Bool
is_fail_next None = false
is_fail_next (Some FailNext) = true
is_fail_next (Some StopBefore) = false
is_fail_next (Some StopAfter) = false

-- the next call fails, whichever it is
abbrev pub fails_next : KeeperTold → Bool
fails_next keeper = keeper.stopped || is_fail_next keeper.armed

-- after that call: the arm has taken effect, and the fault is counted
abbrev pub after_failure : KeeperTold → KeeperTold
after_failure keeper =
    record keeper {
      armed = if is_fail_next keeper.armed then None else keeper.armed;
      faults = one_more 64 keeper.faults;
    }

-- so many more, but the greatest value stays
abbrev pub raised : ℕ → ℕ → ℕ
raised count n = min (count + n) (2 ^ 64 - 1)

-- after so many rows were looked up
abbrev pub after_looks : ℕ → KeeperTold → KeeperTold
after_looks n keeper = record keeper { looked = raised keeper.looked n }

-- after a call began, and failed if it was to
abbrev pub after_begin : KeeperTold → KeeperTold
after_begin keeper = if fails_next keeper then after_failure keeper else keeper

-- after a call that answers by the map, for which so many rows were looked up, or fails
abbrev pub after_reading : ℕ → KeeperTold → KeeperTold
after_reading n keeper = if fails_next keeper then after_failure keeper else after_looks n keeper

-- stopped with this map: the arm has taken effect, and the fault is counted
abbrev pub stopped_with : Tables → KeeperTold → KeeperTold
stopped_with tables keeper =
    record keeper {
      tables = tables;
      armed = None;
      stopped = true;
      faults = one_more 64 keeper.faults;
    }

-- how a commit stops the keeper, if it does
abbrev pub stop_at_commit : Option Arm → List Change → KeeperTold → Option KeeperTold
stop_at_commit None changes keeper = None
stop_at_commit (Some FailNext) changes keeper = None
stop_at_commit (Some StopBefore) changes keeper = Some (stopped_with keeper.tables keeper)
stop_at_commit (Some StopAfter) changes keeper =
    Some (stopped_with (after_batch changes keeper.tables) keeper)

-- how a commit fails, if it does
abbrev pub failure_of_commit : List Change → KeeperTold → Option KeeperTold
failure_of_commit changes keeper =
    if fails_next keeper then Some (after_failure keeper)
    else stop_at_commit keeper.armed changes keeper

-- all changes are made, and nothing else
abbrev pub after_commit : List Change → KeeperTold → KeeperTold
after_commit changes keeper = record keeper { tables = after_batch changes keeper.tables }
