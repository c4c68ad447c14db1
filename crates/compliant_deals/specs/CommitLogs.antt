-- Logs by which a deal commits.
use Rattle.std.specs.Prelude.{ℕ, zero, suc, ◌<◌, List, [], ◌∷◌, ◌++◌}
use Rattle.dh_base.specs.declared.id.Id.{Id}
use Rattle.vote_log.specs.declared.kind.Kind.TheVariants.{Start, Commit, Abort}
use Rattle.vote_log.specs.Entry.{Entry}
use Rattle.vote_log.specs.Places.{HoldsAt, IsFirstStart}

-- The log starts the deal of so many parties, behind that it holds a commit of each, in whatever
-- order, and it holds no abort of the deal. Records of other deals may stand anywhere.
pub record HoldsAllCommits (log : List Entry) (deal : Id) (parties : ℕ) : Type 0 where
  pub start : ℕ
  pub first : IsFirstStart log deal start parties
  pub commits : (index : ℕ) → index < parties
      → (place : ℕ) × (start < place) × HoldsAt log place Commit index deal
  pub no_abort : (place index : ℕ) → HoldsAt log place Abort index deal → ⊥

abbrev pub start_of : Id → ℕ → Entry
start_of deal parties = record { kind = Start; num = parties; deal = deal }

abbrev pub commit_of : Id → ℕ → Entry
commit_of deal index = record { kind = Commit; num = index; deal = deal }

-- the commits of the first n parties, in order
abbrev pub commits_to : Id → ℕ → List Entry
commits_to deal zero = []
commits_to deal (suc n) = commits_to deal n ++ commit_of deal n ∷ []

-- the start of a deal of n parties, and a commit of each
abbrev pub whole_log : Id → ℕ → List Entry
whole_log deal n = start_of deal n ∷ commits_to deal n
