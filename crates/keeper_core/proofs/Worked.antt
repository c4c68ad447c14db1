-- Small maps, by computation.
use Rattle.std.proofs.Common.{◌≡◌, ℕ, Bool, true, false, List, [], ◌∷◌, Option, Some, None, codes, refl, ◌∙◌}
use Rattle.std.specs.FinMap.{get, insert, empty, get-empty, get-insert, get-remove}
use Rattle.keeper_core.specs.declared.arm.Arm.{Arm}
use Rattle.keeper_core.specs.declared.arm.Arm.TheVariants.{FailNext, StopBefore, StopAfter}
use Rattle.keeper_core.specs.declared.change.Change.{Change}
use Rattle.keeper_core.specs.declared.change.Change.TheVariants.{Put, Delete}
use Rattle.keeper_core.specs.Tables.{cell_cmp, Tables}
use Rattle.keeper_core.specs.Batches.{after_batch}
use Rattle.keeper_core.specs.Memory.{KeeperTold, fails_next, after_failure, failure_of_commit}
use Rattle.keeper_core.proofs.Numbered.{cells_total}

abbrev j : List ℕ
j = codes "j"

abbrev k : List ℕ
k = codes "k"

-- one row of table 2, under j
abbrev one_row : Tables
one_row = insert empty (2, j) (codes "1")

-- k is put twice, and j deleted
abbrev changes : List Change
changes = Put 2 k (codes "a") ∷ Put 2 k (codes "b") ∷ Delete 2 j ∷ []

later_put_wins : get (after_batch changes one_row) (2, k) ≡ Some (codes "b")
later_put_wins = get-remove cells_total _ (2, j) (2, k) ∙ get-insert cells_total _ (2, k) (codes "b") (2, k)

deleted : get (after_batch changes one_row) (2, j) ≡ None
deleted = get-remove cells_total _ (2, j) (2, j)

-- the same key in another table is another cell
other_table : get one_row (3, j) ≡ None
other_table = get-insert cells_total empty (2, j) (codes "1") (3, j) ∙ get-empty cell_cmp (3, j)

keeper : Option Arm → Bool → KeeperTold
keeper armed stopped = record { tables = one_row; armed = armed; stopped = stopped; faults = 5; looked = 9 }

unarmed_commits : failure_of_commit changes (keeper None false) ≡ None
unfolding keeper
unarmed_commits = refl

stops_before : failure_of_commit changes (keeper (Some StopBefore) false) ≡ Some (record { tables = one_row; armed = None; stopped = true; faults = 6; looked = 9 })
unfolding keeper
stops_before = refl

stops_after : failure_of_commit changes (keeper (Some StopAfter) false) ≡ Some (record { tables = after_batch changes one_row; armed = None; stopped = true; faults = 6; looked = 9 })
unfolding keeper
stops_after = refl

fails_once : fails_next (after_failure (keeper (Some FailNext) false)) ≡ false
unfolding keeper
fails_once = refl

stays_stopped : fails_next (after_failure (keeper None true)) ≡ true
unfolding keeper
stays_stopped = refl
