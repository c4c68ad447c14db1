-- How a log is made again from its records and the texts of its deals.
use Rattle.std.specs.Prelude.{ℕ, ◌≡◌, ◌<◌, ◌&&◌, ◌⊎◌, Bool, not, List, take, slice_get, Some, None, IsSome, is_some, Ok, is_ok}
use Rattle.std.specs.List.{Contains}
use Rattle.std.specs.FinMap.{insert}
use Rattle.sha2.specs.Sha256.{sha256}
use Rattle.dh_base.specs.declared.id.Id.{Id}
use Rattle.vote_log.specs.declared.kind.Kind.TheVariants.{Start}
use Rattle.vote_log.specs.Entry.{Entry}
use Rattle.vote_log.specs.Deciding.{starts}
use Rattle.vote_log.specs.Places.{HoldsAt}
use Rattle.vote_log.specs.Admission.{add_refusal, votable_of, IsLog}
use Rattle.deal_log.specs.declared.rebuild_fault.RebuildFault.{RebuildFault}
use Rattle.deal_log.specs.declared.rebuild_fault.RebuildFault.TheVariants.{BadRecords, TextMissing, NoMemory}
use Rattle.deal_log.specs.DealTexts.{TextMap, IsTextFor, id_in, text_of}
use Rattle.deal_log.specs.VoteLogs.{VoteLogTold, IsStartedText, most_records}

-- The record at the place is the first that a log refuses behind those before it.
pub record IsFirstRefused (recs : List Entry) (at : ℕ) : Type 0 where
  pub entry : Entry
  pub here : slice_get recs at ≡ Some entry
  pub before : IsLog (take at recs) most_records
  pub refused : (add_refusal (take at recs) most_records entry ≡ None) → ⊥

-- At the place starts a deal that can be voted on, and none of the texts is for it.
pub record LacksText (house : Id) (recs : List Entry) (texts : List (List ℕ)) (at : ℕ)
    : Type 0 where
  pub deal : Id
  pub num : ℕ
  pub parties : ℕ
  pub here : HoldsAt recs at Start num deal
  pub votable : votable_of recs deal ≡ Ok parties
  pub none : (text : List ℕ) → Contains texts text → IsTextFor house parties deal text → ⊥

-- The texts that are kept are exactly those of the given ones that are for deals that the log
-- starts. Of texts for one deal one is kept.
pub record KeepsGiven (house : Id) (recs : List Entry) (texts : List (List ℕ)) (kept : TextMap)
    : Type 0 where
  pub only : (deal : Id) (text : List ℕ) → text_of kept deal ≡ Some text
      → Contains texts text × IsStartedText house recs deal text
  pub all : (deal : Id) (text : List ℕ) → Contains texts text → IsStartedText house recs deal text
      → IsSome (text_of kept deal)

-- The log has these records, each of which it took behind those before it, and no deal of it that
-- can be voted on lacks its text.
pub record IsRebuilt (house : Id) (recs : List Entry) (texts : List (List ℕ)) (log : VoteLogTold)
    : Type 0 where
  pub housed : log.house ≡ house
  pub entries : log.entries ≡ recs
  pub reached : IsLog recs most_records
  pub keeps : KeepsGiven house recs texts log.texts
  pub complete : (at : ℕ) → LacksText house recs texts at → ⊥

-- why there is no such log: a record at fault is looked for in the whole list, and then a deal
-- without a text. Memory may run out at any list
abbrev pub IsRebuildFault : Id → List Entry → List (List ℕ) → RebuildFault → Type 0
IsRebuildFault house recs texts (BadRecords at) = IsFirstRefused recs at
IsRebuildFault house recs texts (TextMissing at) =
    IsLog recs most_records × LacksText house recs texts at
    × ((earlier : ℕ) → earlier < at → LacksText house recs texts earlier → ⊥)
IsRebuildFault house recs texts NoMemory = Unit {0}

-- ---- what the code computes

-- why the records alone make no log
abbrev pub IsRecordsFault : List Entry → RebuildFault → Type 0
IsRecordsFault recs (BadRecords at) = IsFirstRefused recs at
IsRecordsFault recs NoMemory = Unit {0}
IsRecordsFault recs (TextMissing at) = ⊥

-- The text is kept, where it is for a deal that the log starts.
abbrev pub KeepsText : Id → List Entry → List ℕ → TextMap → TextMap → Type 0
KeepsText house recs text before after =
    (IsStartedText house recs (id_in text) text × (after ≡ insert before (sha256 text) text))
    ⊎ ((IsStartedText house recs (id_in text) text → ⊥) × (after ≡ before))

-- the record starts a deal that can be voted on, and no text of it is kept
abbrev pub is_unkept : List Entry → TextMap → Entry → Bool
is_unkept recs texts entry =
    starts entry.kind
    && (is_ok (votable_of recs entry.deal) && not (is_some (text_of texts entry.deal)))
