-- A record of a log, as contracts see it.
use Rattle.std.specs.Prelude.{ℕ, ◌≤◌, ◌<◌}
use Rattle.dh_base.specs.declared.id.Id.{Id}
use Rattle.dh_base.specs.Limits.{most_parties}
use Rattle.vote_log.specs.declared.kind.Kind.{Kind}
use Rattle.vote_log.specs.declared.kind.Kind.TheVariants.{Start, Commit, Abort}

-- `num` is the number of parties of a start, and the index of the party for a vote
pub record Entry : Type 0 where
  pub kind : Kind
  pub num : ℕ
  pub deal : Id

-- 2 to 16 parties, or an index below 16
abbrev pub IsInRange : Kind → ℕ → Type 0
IsInRange Start parties = (2 ≤ parties) × (parties ≤ most_parties)
IsInRange Commit index = index < most_parties
IsInRange Abort index = index < most_parties
