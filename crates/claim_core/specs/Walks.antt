-- How far a walk along records has come.
use Rattle.std.specs.Prelude.{◌≡◌, ◌≤◌, List, length, take}
use Rattle.dh_base.specs.declared.id.Id.{Id}
use Rattle.vote_log.specs.Entry.{Entry}
use Rattle.vote_log.specs.Heads.{head_after}
use Rattle.claim_core.specs.declared.walk.Walk.{Walk}

-- the walk's head is that of the first records, as many as it has passed
pub record HasWalked (house : Id) (recs : List Entry) (walk : Walk) : Type 0 where
  pub within : walk.passed ≤ length recs
  pub head : walk.head ≡ head_after house (take walk.passed recs)
