-- A log that takes envelopes, as contracts see it: what it refuses, and what it keeps.
use Rattle.std.specs.Prelude.{ℕ, ◌≡◌, ◌==◌, ◌++◌, ◌∷◌, [], ◌<◌, ◌⊎◌, Bool, false, if◌then◌else◌, List, Option, Some, None, IsSome, Result, Ok, Err, refl}
use Rattle.std.specs.Option.{option_map, option_or}
use Rattle.std.specs.Coded.{Coded, code_by, coded×, coded_ℕ, coded_list}
use Rattle.std.specs.FinMap.{code, insert}
use Rattle.sha2.specs.Sha256.{sha256}
use Rattle.dh_base.specs.declared.id.Id.{Id}
use Rattle.dh_base.specs.contracts.id.Id as id
use Rattle.dh_base.specs.Ids.{same_id}
use Rattle.dh_base.specs.Limits.{most_parties}
use Rattle.key_ring.specs.declared.envelope.Envelope.{Envelope}
use Rattle.deal_core.specs.declared.party.Party.{Party}
use Rattle.deal_core.specs.Deals.{index_of_account}
use Rattle.vote_log.specs.declared.log_fault.LogFault.{LogFault}
use Rattle.vote_log.specs.declared.log_fault.LogFault.TheVariants.{NotAParty, NoMemory}
use Rattle.vote_log.specs.contracts.log_record.LogRecord as rec
use Rattle.vote_log.specs.Entry.{Entry}
use Rattle.vote_log.specs.Admission.{add_refusal, parties_started, votable_of, IsLog}
use Rattle.deal_log.specs.declared.admit_fault.AdmitFault.{AdmitFault}
use Rattle.deal_log.specs.declared.admit_fault.AdmitFault.TheVariants.{WrongHouse, Refused}
use Rattle.deal_log.specs.declared.posting.Posting.{Posting}
use Rattle.deal_log.specs.declared.posting.Posting.TheVariants.{Start, Vote}
use Rattle.deal_log.specs.DealTexts.{TextMap, IsTextFor, house_in, parties_in, text_of}
use Rattle.deal_log.specs.Postings.{Posts, IsPostFault, start_entry, vote_entry}

-- the most records of a log
abbrev pub most_records : ℕ
most_records = 4096

-- the house of a log, its records, and the texts of deals that it started
pub record VoteLogTold : Type 0 where
  pub house : Id
  pub entries : List Entry
  pub texts : TextMap

-- ---- how it is stored as a value

abbrev pub vote_log_code : Coded VoteLogTold
vote_log_code =
    code_by (Id × (List Entry × TextMap))
    (coded× id.the_row.coded (coded× (coded_list rec.the_row.coded)
    (code (coded_list coded_ℕ) (coded_list coded_ℕ))))
    (λ log. (log.house, (log.entries, log.texts)))
    (λ p. record { house = p.0; entries = p.1.0; texts = p.1.1 }) (λ _. refl)

-- ---- what is refused

abbrev pub house_refusal : Id → Option Id → Option AdmitFault
house_refusal house None = None
house_refusal house (Some named) = if same_id house named then None else Some (WrongHouse named)

abbrev pub stranger : Id → AdmitFault
stranger account = Refused (NotAParty account)

abbrev pub party_refusal : Id → Option ℕ → Option AdmitFault
party_refusal account None = Some (stranger account)
party_refusal account (Some index) = None

abbrev pub parties_kept : Option (List ℕ) → List Party
parties_kept None = []
parties_kept (Some text) = parties_in text

abbrev pub is_index : Option ℕ → ℕ → Bool
is_index None index = false
is_index (Some own) index = own == index

-- whether the account is the party of that index, by the text that is kept of the deal
abbrev pub is_party_at : TextMap → Id → Id → ℕ → Bool
is_party_at texts deal account index =
    is_index (index_of_account (parties_kept (text_of texts deal)) account) index

-- a vote finds the deal not started or decided, or the account not the party of that index
abbrev pub vote_refusal : Result ℕ LogFault → Bool → Id → Option AdmitFault
vote_refusal (Err fault) is_party account = Some (Refused fault)
vote_refusal (Ok parties) is_party account = if is_party then None else Some (stranger account)

-- why this is not the account's to ask of the log: a start may be of another house, or not of a
-- deal of the account
abbrev pub ask_refusal : VoteLogTold → Posting → Option AdmitFault
ask_refusal log (Start account text) =
    option_or (house_refusal log.house (house_in text))
    (party_refusal account (index_of_account (parties_in text) account))
ask_refusal log (Vote account choice index deal) =
    vote_refusal (votable_of log.entries deal) (is_party_at log.texts deal account index) account

-- the record that is asked for
abbrev pub asked : Posting → Entry
asked (Start account text) = start_entry text
asked (Vote account choice index deal) = vote_entry choice index deal

-- what the log refuses of the record
abbrev pub record_refusal : List Entry → Entry → Option AdmitFault
record_refusal entries entry = option_map Refused (add_refusal entries most_records entry)

-- why the log refuses what is asked of it, if it does
abbrev pub refusal_of : VoteLogTold → Posting → Option AdmitFault
refusal_of log posting =
    option_or (ask_refusal log posting) (record_refusal log.entries (asked posting))

-- with a start its text is kept
abbrev pub texts_with : TextMap → Posting → TextMap
texts_with texts (Start account text) = insert texts (sha256 text) text
texts_with texts (Vote account choice index deal) = texts

-- the log with what was asked
abbrev pub with_posting : VoteLogTold → Posting → VoteLogTold
with_posting log posting =
    record log {
      entries = log.entries ++ asked posting ∷ [];
      texts = texts_with log.texts posting;
    }

-- ---- what every log keeps

-- The log starts the deal, and this is a text for it.
pub record IsStartedText (house : Id) (log : List Entry) (deal : Id) (text : List ℕ)
    : Type 0 where
  pub parties : ℕ
  pub started : parties_started log deal ≡ Some parties
  pub for : IsTextFor house parties deal text

-- The texts that are kept are of started deals, and each deal that can be voted on has its text.
pub record HasTexts (house : Id) (log : List Entry) (texts : TextMap) : Type 0 where
  pub only : (deal : Id) (text : List ℕ) → text_of texts deal ≡ Some text
      → IsStartedText house log deal text
  pub all : (deal : Id) (parties : ℕ) → votable_of log deal ≡ Ok parties
      → IsSome (text_of texts deal)

pub record IsVoteLog (log : VoteLogTold) : Type 0 where
  pub reached : IsLog log.entries most_records
  pub texts : HasTexts log.house log.entries log.texts

-- ---- what a call does

-- the fault is the refusal. Want of memory may stand in its place
abbrev pub IsRefusal : AdmitFault → Option AdmitFault → Type 0
IsRefusal (Refused NoMemory) refusal = Unit {0}
IsRefusal fault refusal = refusal ≡ Some fault

-- What an account may ask: a start of a deal of the house, or a vote with an index of a party.
abbrev pub IsAsked : Id → Posting → Type 0
IsAsked house (Start account text) = house_in text ≡ Some house
IsAsked house (Vote account choice index deal) = index < most_parties

-- The log took this, of which nothing was refused.
pub record IsWithPosting (before : VoteLogTold) (posting : Posting) (after : VoteLogTold)
    : Type 0 where
  pub free : refusal_of before posting ≡ None
  pub is : after ≡ with_posting before posting

-- The log took what the envelope asks.
pub record Admits (env : Envelope) (before after : VoteLogTold) : Type 0 where
  pub posting : Posting
  pub posts : Posts env posting
  pub taken : IsWithPosting before posting after

-- The log refuses what the envelope asks, by this fault.
pub record RefusesBy (env : Envelope) (log : VoteLogTold) (fault : AdmitFault) : Type 0 where
  pub posting : Posting
  pub posts : Posts env posting
  pub refused : IsRefusal fault (refusal_of log posting)

-- The envelope asks nothing of a log, or this log refuses what it asks.
abbrev pub IsAdmitFault : Envelope → VoteLogTold → AdmitFault → Type 0
IsAdmitFault env log fault = IsPostFault env fault ⊎ RefusesBy env log fault

-- The log before, which kept its texts, took something as the last.
pub record IsUndoable (before after : VoteLogTold) : Type 0 where
  pub kept : HasTexts before.house before.entries before.texts
  pub posting : Posting
  pub taken : IsWithPosting before posting after
