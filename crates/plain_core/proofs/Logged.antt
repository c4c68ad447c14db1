-- The log only grows, and an event of the log settles nothing.
use Rattle.std.proofs.Common.{◌≡◌, ℕ, Bool, true, false, cond, Option, Some, None, Result, Ok, Err, List, [], ◌∷◌, ◌++◌, length, position, refl, sym}
use Rattle.std.specs.Str.{bytes_eq}
use Rattle.std.proofs.lemmas.List.{append-nil}
use Rattle.dh_base.specs.declared.outcome.Outcome.{Outcome}
use Rattle.dh_base.specs.declared.outcome.Outcome.TheVariants.{Commit as ToCommit, Abort as ToAbort}
use Rattle.vote_log.specs.declared.log_fault.LogFault.{LogFault}
use Rattle.vote_log.specs.declared.kind.Kind.TheVariants as kind
use Rattle.vote_log.specs.Entry.{Entry}
use Rattle.vote_log.specs.Log.{Log}
use Rattle.vote_log.specs.Admission.{add_refusal, votable_of}
use Rattle.vote_log.specs.Voting.{vote_kind}
use Rattle.plain_script.specs.BoundNames.{members_of}
use Rattle.plain_script.specs.declared.declaration.Declaration.{Declaration}
use Rattle.plain_script.specs.declared.event.Event.{Event}
use Rattle.plain_script.specs.declared.event.Event.TheVariants.{Register, Escrow, Transfer, Start, Commit, Abort, Claim}
use Rattle.plain_script.specs.Ids.{plain_id}
use Rattle.plain_core.specs.Ledgers.{World, LogAnswer, step_of, is_member, add_answer, entry_answer, log_refuses, vote_found, vote_by, start_answer, vote_answer}
use Rattle.plain_core.specs.declared.reply.Reply.{Reply}
use Rattle.plain_core.specs.declared.reply.Reply.TheVariants.{RefusedEntry}
use Rattle.plain_core.specs.declared.log_refusal.LogRefusal.TheVariants as refused
use Rattle.plain_core.proofs.Following.{IsSilent}

abbrev pub IsLonger : Log → Log → Type 0
IsLonger old new = (more : List Entry) × (new.entries ≡ old.entries ++ more)

pub same_log : (log : Log) → IsLonger log log
same_log log = ([], sym (append-nil log.entries))

-- the log is longer, and the reply tells no outcome
pub record IsLogged (log : Log) (answer : LogAnswer) : Type 0 where
  pub longer : IsLonger log answer.log
  pub replies : IsSilent answer.reply

refused_entry : (log : Log) (refusal : Reply) → IsSilent refusal → IsLogged log (log_refuses log refusal)
refused_entry log refusal none = record { longer = same_log log; replies = none }

answered_entry : (log : Log) (entry : Entry) (refusal : Option LogFault) → IsLogged log (entry_answer log entry refusal)
answered_entry log entry (Some fault) = refused_entry log (RefusedEntry (refused.Fault fault)) tt
answered_entry log entry None = record { longer = (entry ∷ [], refl); replies = tt }

added_entry : (log : Log) (entry : Entry) → IsLogged log (add_answer log entry)
added_entry log entry = answered_entry log entry (add_refusal log.entries log.limit entry)

pub start_logged : (members : List (List ℕ)) (deal party : List ℕ) (log : Log) → IsLogged log (start_answer members deal party log)
start_logged members deal party log = by (is_member members party)
  where
    by : (b : Bool) → IsLogged log (cond b (add_answer log (record { kind = kind.Start; num = length members; deal = plain_id deal })) (log_refuses log (RefusedEntry (refused.NotAParty party))))
    by true = added_entry log (record { kind = kind.Start; num = length members; deal = plain_id deal })
    by false = refused_entry log (RefusedEntry (refused.NotAParty party)) tt

by_index : (log : Log) (choice : Outcome) (deal party : List ℕ) (index : Option ℕ) → IsLogged log (vote_by log choice deal party index)
by_index log choice deal party None = refused_entry log (RefusedEntry (refused.NotAParty party)) tt
by_index log choice deal party (Some index) = added_entry log (record { kind = vote_kind choice; num = index; deal = plain_id deal })

found_logged : (log : Log) (choice : Outcome) (deal party : List ℕ) (index : Option ℕ) (votable : Result ℕ LogFault) → IsLogged log (vote_found log choice deal party index votable)
found_logged log choice deal party index (Err fault) = refused_entry log (RefusedEntry (refused.Fault fault)) tt
found_logged log choice deal party index (Ok parties) = by_index log choice deal party index

pub vote_logged : (members : List (List ℕ)) (choice : Outcome) (deal party : List ℕ) (log : Log) → IsLogged log (vote_answer members choice deal party log)
vote_logged members choice deal party log = found_logged log choice deal party (position (bytes_eq party) members) (votable_of log.entries (plain_id deal))

pub step_longer : (ds : List Declaration) (world : World) (event : Event) → IsLonger world.log (step_of ds world event).world.log
step_longer ds world (Register ledger deal party) = same_log world.log
step_longer ds world (Escrow ledger deal party asset amount) = same_log world.log
step_longer ds world (Transfer ledger deal from turn to asset amount) = same_log world.log
step_longer ds world (Start deal party) = (start_logged (members_of ds deal) deal party world.log).longer
step_longer ds world (Commit deal party) = (vote_logged (members_of ds deal) ToCommit deal party world.log).longer
step_longer ds world (Abort deal party) = (vote_logged (members_of ds deal) ToAbort deal party world.log).longer
step_longer ds world (Claim ledger deal len) = same_log world.log
