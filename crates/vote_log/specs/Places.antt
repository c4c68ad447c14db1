-- The outcome of a deal in a sentence: what the first decisive place of the log says.
use Rattle.std.specs.Prelude.{ℕ, ◌≡◌, suc, ◌<◌, Some, List, slice_get}
use Rattle.dh_base.specs.declared.id.Id.{Id}
use Rattle.dh_base.specs.declared.outcome.Outcome.{Outcome}
use Rattle.dh_base.specs.declared.outcome.Outcome.TheVariants.{Commit as ToCommit, Abort as ToAbort}
use Rattle.vote_log.specs.declared.kind.Kind.{Kind}
use Rattle.vote_log.specs.declared.kind.Kind.TheVariants.{Start, Commit, Abort}
use Rattle.vote_log.specs.Entry.{Entry}

-- at the place stands a record of the deal of that kind and number
abbrev pub HoldsAt : List Entry → ℕ → Kind → ℕ → Id → Type 0
HoldsAt log place kind num deal =
    slice_get log place ≡ Some (record { kind = kind; num = num; deal = deal })

-- the deal starts at the place, and nowhere before it
pub record IsFirstStart (log : List Entry) (deal : Id) (place parties : ℕ) : Type 0 where
  pub here : HoldsAt log place Start parties deal
  pub first : (earlier other : ℕ) → earlier < place → HoldsAt log earlier Start other deal → ⊥

-- between two places stands a commit of the deal by the index
abbrev pub HasCommitted : List Entry → Id → ℕ → ℕ → ℕ → Type 0
HasCommitted log deal after before index =
    (place : ℕ) × (after < place) × (place < before) × HoldsAt log place Commit index deal

-- A place after the first start at which a commit stands by which each index below the number of
-- parties has one.
pub record CommitDecides (log : List Entry) (deal : Id) (place : ℕ) : Type 0 where
  pub start : ℕ
  pub parties : ℕ
  pub index : ℕ
  pub first : IsFirstStart log deal start parties
  pub after : start < place
  pub here : HoldsAt log place Commit index deal
  pub complete : (each : ℕ) → each < parties → HasCommitted log deal start (suc place) each

-- A place after the first start at which an abort by an index below the number of parties stands,
-- while some index below it has no commit.
pub record AbortDecides (log : List Entry) (deal : Id) (place : ℕ) : Type 0 where
  pub start : ℕ
  pub parties : ℕ
  pub index : ℕ
  pub first : IsFirstStart log deal start parties
  pub after : start < place
  pub here : HoldsAt log place Abort index deal
  pub party : index < parties
  pub missing : ℕ
  pub other : missing < parties
  pub lacks : HasCommitted log deal start place missing → ⊥

-- the place is decisive, for this outcome
abbrev pub IsDecisive : List Entry → Id → ℕ → Outcome → Type 0
IsDecisive log deal place ToCommit = CommitDecides log deal place
IsDecisive log deal place ToAbort = AbortDecides log deal place

-- it is, and no place before it is
pub record IsFirstDecisive (log : List Entry) (deal : Id) (place : ℕ)
    (outcome : Outcome) : Type 0 where
  pub here : IsDecisive log deal place outcome
  pub first : (earlier : ℕ) (other : Outcome) → earlier < place
      → IsDecisive log deal earlier other → ⊥
