-- What an envelope asks of a log, or why it asks nothing.
use Rattle.std.specs.Prelude.{ℕ, ◌≡◌, ◌≢◌, nat_lt, if◌then◌else◌, List, length, Option, Some, None, Result, Ok, Err, MatchResult, ◌⊎◌}
use Rattle.dh_base.specs.declared.id.Id.{Id}
use Rattle.dh_base.specs.declared.outcome.Outcome.{Outcome}
use Rattle.dh_base.specs.Limits.{most_parties}
use Rattle.key_ring.specs.declared.envelope.Envelope.{Envelope}
use Rattle.key_ring.specs.declared.said.Said.{Said}
use Rattle.key_ring.specs.Saying.{Says}
use Rattle.key_ring.specs.Answering.{said_of}
use Rattle.act_text.specs.declared.act.Act.{Act}
use Rattle.act_text.specs.declared.act.Act.TheVariants as act
use Rattle.act_text.specs.declared.office.Office.TheVariants.{Log}
use Rattle.act_text.specs.ActReading.{act_of}
use Rattle.deal_core.specs.declared.deal_fault.DealFault.TheVariants as deal_fault
use Rattle.deal_core.specs.Reading.{IsFaultOf}
use Rattle.vote_log.specs.declared.kind.Kind.TheVariants as kind
use Rattle.vote_log.specs.declared.log_fault.LogFault.TheVariants.{NoMemory}
use Rattle.vote_log.specs.Entry.{Entry}
use Rattle.vote_log.specs.Voting.{vote_kind}
use Rattle.deal_log.specs.declared.admit_fault.AdmitFault.{AdmitFault}
use Rattle.deal_log.specs.declared.admit_fault.AdmitFault.TheVariants.{BadEnvelope, BadAct, BadDeal, WrongHouse, Refused}
use Rattle.deal_log.specs.declared.posting.Posting.{Posting}
use Rattle.deal_log.specs.declared.posting.Posting.TheVariants.{Start, Vote}
use Rattle.deal_log.specs.DealTexts.{IsDealText, id_in, parties_in}

-- The envelope says the act of a log under the account.
pub record SaysAct (env : Envelope) (account : Id) (said : Act) : Type 0 where
  pub q : ℕ
  pub says : Says env account.0 q env.message
  pub read : act_of Log env.message ≡ Ok said

-- The envelope asks a log to take this.
abbrev pub Posts : Envelope → Posting → Type 0
Posts env (Start account text) = SaysAct env account (act.StartDeal text) × IsDealText text
Posts env (Vote account choice index deal) = SaysAct env account (act.Vote deal index choice)

-- Why the envelope asks nothing of a log: it says nothing, or no act, or starts no deal. Memory
-- may run out at any envelope.
abbrev pub IsPostFault : Envelope → AdmitFault → Type 0
IsPostFault env (BadEnvelope fault) = said_of env ≡ Err fault
IsPostFault env (BadAct fault) =
    (said : Said) × (said_of env ≡ Ok said) × (act_of Log env.message ≡ Err fault)
IsPostFault env (BadDeal fault) =
    (account : Id) × (text : List ℕ) × SaysAct env account (act.StartDeal text)
    × IsFaultOf text fault × (fault ≢ deal_fault.NoMemory)
IsPostFault env (WrongHouse named) = ⊥
IsPostFault env (Refused fault) = fault ≡ NoMemory

-- what reading the envelope may answer
abbrev pub IsPosted : Envelope → Result Posting AdmitFault → Type 0
IsPosted env result = MatchResult result (Posts env) (IsPostFault env)

-- the two are one, or memory ran out at one of them
abbrev pub AreOneReading : Result Posting AdmitFault → Result Posting AdmitFault → Type 0
AreOneReading one other =
    (one ≡ other) ⊎ ((one ≡ Err (Refused NoMemory)) ⊎ (other ≡ Err (Refused NoMemory)))

-- why the message is no act of a log; memory may run out
abbrev pub IsActFault : List ℕ → AdmitFault → Type 0
IsActFault message (BadAct fault) = act_of Log message ≡ Err fault
IsActFault message (Refused fault) = fault ≡ NoMemory
IsActFault message _ = ⊥

-- why the text is no deal's; memory may run out
abbrev pub IsTextFault : List ℕ → AdmitFault → Type 0
IsTextFault text (BadDeal fault) = IsFaultOf text fault × (fault ≢ deal_fault.NoMemory)
IsTextFault text (Refused fault) = fault ≡ NoMemory
IsTextFault text _ = ⊥

-- ---- the record that is asked for

abbrev pub start_entry : List ℕ → Entry
start_entry text =
    record { kind = kind.Start; num = length (parties_in text); deal = id_in text }

abbrev pub vote_entry : Outcome → ℕ → Id → Entry
vote_entry choice index deal = record { kind = vote_kind choice; num = index; deal = deal }

-- a vote with an index that no party has is no record
abbrev pub entry_of : Posting → Option Entry
entry_of (Start account text) = Some (start_entry text)
entry_of (Vote account choice index deal) =
    if nat_lt index most_parties then Some (vote_entry choice index deal) else None
