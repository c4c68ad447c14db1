-- A log that grows, as contracts see it.
use Rattle.std.specs.Prelude.{ℕ, ◌≡◌, ◌≤◌, ◌<◌, ◌+◌, ◌^◌, List, length}
use Rattle.vote_log.specs.Entry.{Entry}
use Rattle.vote_log.specs.Owed.{owed_of}
use Rattle.vote_log.specs.Admission.{IsLog}

pub record Log : Type 0 where
  pub entries : List Entry
  pub limit : ℕ

-- the log is reached under its limit, and the votes owed are counted
pub record IsKept (entries : List Entry) (limit owed : ℕ) : Type 0 where
  pub reached : IsLog entries limit
  pub counted : owed ≡ owed_of entries
  pub room : length entries + owed ≤ limit
  pub fits : limit < 2 ^ 32
