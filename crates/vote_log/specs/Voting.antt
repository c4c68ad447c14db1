-- The kind of a vote.
use Rattle.dh_base.specs.declared.outcome.Outcome.{Outcome}
use Rattle.dh_base.specs.declared.outcome.Outcome.TheVariants.{Commit, Abort}
use Rattle.vote_log.specs.declared.kind.Kind.{Kind}
use Rattle.vote_log.specs.declared.kind.Kind.TheVariants.{Commit as CommitVote, Abort as AbortVote}

abbrev pub vote_kind : Outcome → Kind
vote_kind Commit = CommitVote
vote_kind Abort = AbortVote
