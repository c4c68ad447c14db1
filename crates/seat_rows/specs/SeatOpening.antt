-- The state of a seat, as its rows have it, and which of its rows lack their form.
use Rattle.std.specs.Prelude.{ℕ, ◌≡◌, ◌⊎◌, ◌-◌, ◌==◌, ◌||◌, ◌&&◌, Bool, true, false, not, if◌then◌else◌, List, [], ◌∷◌, length, slice_get, Option, Some, None, is_none, IfSome, IsSome}
use Rattle.std.specs.Int.{w32, to_be_bytes}
use Rattle.std.specs.Option.{option_map}
use Rattle.std.specs.Str.{bytes_eq}
use Rattle.std.specs.List.{Contains, position_from}
use Rattle.sha2.specs.Sha256.{sha256}
use Rattle.keeper_core.specs.declared.row.Row.{Row}
use Rattle.keeper_core.specs.declared.store_fault.StoreFault.{StoreFault}
use Rattle.keeper_core.specs.declared.store_fault.StoreFault.TheVariants.{Keeper, BadRow, NoMemory}
use Rattle.keeper_core.specs.StoreFaults.{bad_row_of, HasCause}
use Rattle.keeper_core.specs.NumberedRows.{numbered_rows}
use Rattle.keeper_core.specs.Tables.{Tables}
use Rattle.key_ring.specs.Signers.{SignerTold}
use Rattle.key_ring.specs.UsedTexts as used
use Rattle.vote_log.specs.Entry.{Entry}
use Rattle.vote_log.specs.RecordTexts.{record_text}
use Rattle.deal_log.specs.DealTexts.{TextMap, id_in, text_of}
use Rattle.deal_log.specs.VoteLogs.{VoteLogTold}
use Rattle.deal_log.specs.Rebuilding.{IsRebuilt, IsFirstRefused, LacksText}
use Rattle.seat_rows.specs.declared.closing.Closing.{Closing}
use Rattle.seat_rows.specs.declared.place.SeatPlace.{SeatPlace}
use Rattle.seat_rows.specs.declared.rows.SeatRows.{SeatRows}
use Rattle.seat_rows.specs.declared.state.SeatState.{SeatState}
use Rattle.seat_rows.specs.SeatPlaces.{house_of, is_first}
use Rattle.seat_rows.specs.SeatTexts.{has_handed}
use Rattle.seat_rows.specs.SeatTables.{form_tab, record_tab, text_tab, phase_tab, form_key, begun_key, closing_key, record_texts, begun_row, closing_text}
use Rattle.seat_rows.specs.SeatReading.{rows_in, form_in, length_in, closing_in, text_rows, IsNoRecord, IsNoText}

-- ---- what the rows say

-- The texts are under their digests, and are those that the log keeps.
pub record HoldsTexts (rows : List Row) (kept : TextMap) : Type 0 where
  pub texts : List (List ℕ)
  pub rows_are : rows ≡ text_rows texts
  pub all : (text : List ℕ) → Contains texts text → text_of kept (id_in text) ≡ Some text
  pub only : (key text : List ℕ) → text_of kept (record { 0 = key }) ≡ Some text
      → Contains texts text × (sha256 text ≡ key)

-- The rows are those of the state.
pub record AreRowsOf (place : SeatPlace) (rows : SeatRows) (state : SeatState) : Type 0 where
  pub records : rows.records ≡ numbered_rows w32 0 (record_texts state.log.entries)
  pub texts : HoldsTexts rows.texts state.log.texts
  pub begun : rows.begun ≡ begun_row place state.begun
  pub closing : rows.closing ≡ option_map closing_text state.closing

-- ---- rows that lack their form

-- A row of where a seat began is no length, or the seat is of the set of epoch 0.
abbrev pub is_no_beginning : SeatPlace → List ℕ → Bool
is_no_beginning place val = is_first place || is_none (length_in val)

abbrev pub is_at : ℕ → Option Closing → Bool
is_at len None = false
is_at len (Some closing) = closing.len == len

-- A row of closing is no closing at the end of the records.
abbrev pub is_no_closing : ℕ → List ℕ → Bool
is_no_closing records val = not (is_at records (closing_in val))

-- the seat has not begun
abbrev pub is_unbegun : SeatPlace → SeatRows → Bool
is_unbegun place rows = not (is_first place) && is_none rows.begun

-- the row of that number
abbrev pub IsNumbered : ℕ → Row → Type 0
IsNumbered at row = row.key ≡ to_be_bytes w32 at

-- At that place a log refuses the record, or lacks the text of a deal that can be voted on.
abbrev pub IsAmissAt : SeatPlace → List Entry → List (List ℕ) → ℕ → Type 0
IsAmissAt place recs texts at =
    IsFirstRefused recs at ⊎ LacksText (house_of place) recs texts at

-- A row that the seat finds amiss.
pub data Lacks (place : SeatPlace) (size : ℕ) (texts : List (List ℕ)) (rows : SeatRows) (tab : ℕ)
    (row : Row) : Type 0 where
  -- the last key has signed, and not the handover
  LastKey : (state : SeatState) → tab ≡ used.used_tab → AreRowsOf place rows state
      → state.signer.texts ≡ texts → length texts ≡ size → has_handed place state ≡ false
      → IsNumbered (size - 1) row → slice_get texts (size - 1) ≡ Some row.val
      → Lacks place size texts rows tab row
  NoBeginning : tab ≡ phase_tab → row.key ≡ begun_key → rows.begun ≡ Some row.val
      → is_no_beginning place row.val ≡ true → Lacks place size texts rows tab row
  NoClosing : tab ≡ phase_tab → row.key ≡ closing_key → rows.closing ≡ Some row.val
      → is_no_closing (length rows.records) row.val ≡ true → Lacks place size texts rows tab row
  EarlyClosing : tab ≡ phase_tab → row.key ≡ closing_key → rows.closing ≡ Some row.val
      → is_unbegun place rows ≡ true
      → Lacks place size texts rows tab row
  NoRecord : tab ≡ record_tab → IsNoRecord rows.records row → Lacks place size texts rows tab row
  EarlyRecord : tab ≡ record_tab → is_unbegun place rows ≡ true → slice_get rows.records 0 ≡ Some row
      → Lacks place size texts rows tab row
  BadRecord : (recs : List Entry) (deals : List (List ℕ)) (at : ℕ) → tab ≡ record_tab
      → rows.records ≡ numbered_rows w32 0 (record_texts recs) → rows.texts ≡ text_rows deals
      → IsAmissAt place recs deals at → IsNumbered at row → Contains rows.records row
      → Lacks place size texts rows tab row
  NoText : tab ≡ text_tab → IsNoText rows.texts row → Lacks place size texts rows tab row
  -- the log that is made of the rows keeps another text for it, or none
  UnusedText : (recs : List Entry) (deals : List (List ℕ)) (log : VoteLogTold) → tab ≡ text_tab
      → rows.records ≡ numbered_rows w32 0 (record_texts recs) → rows.texts ≡ text_rows deals
      → IsRebuilt (house_of place) recs deals log
      → (text_of log.texts (id_in row.val) ≡ Some row.val → ⊥) → Contains rows.texts row
      → Lacks place size texts rows tab row

-- the row that names a seat has not its form
abbrev pub IsNoForm : ℕ → Row → Type 0
IsNoForm tab row = (tab ≡ form_tab) × (row.key ≡ form_key) × (form_in row.val ≡ None)

-- A row of the tables that a seat with a ring of that size finds amiss.
abbrev pub LacksForm : SeatPlace → ℕ → Option Tables → ℕ → Row → Type 0
LacksForm place size told tab row = IsNoForm tab row
    ⊎ (used.LacksForm size told tab row
    ⊎ ((texts : List (List ℕ)) × (rows : SeatRows)
    × IfSome told (λ tables. used.StandsFor tables texts × (rows ≡ rows_in tables))
    × Lacks place size texts rows tab row))
