-- What the parts of loading a seat answer.
use Rattle.std.specs.Prelude.{ℕ, ◌≡◌, ◌⊎◌, ◌-◌, Bool, true, false, not, List, [], length, slice_get, Option, Some, None, IfSome, IsSome}
use Rattle.std.specs.Int.{to_be_bytes, w32}
use Rattle.std.specs.Option.{option_map}
use Rattle.std.specs.List.{Contains}
use Rattle.sha2.specs.Sha256.{sha256}
use Rattle.keeper_core.specs.declared.row.Row.{Row}
use Rattle.keeper_core.specs.declared.store_fault.StoreFault.{StoreFault}
use Rattle.keeper_core.specs.declared.store_fault.StoreFault.TheVariants.{Keeper, BadRow, NoMemory}
use Rattle.keeper_core.specs.StoreFaults.{bad_row_of}
use Rattle.keeper_core.specs.NumberedRows.{numbered_rows}
use Rattle.key_ring.specs.Signers.{SignerTold}
use Rattle.vote_log.specs.Entry.{Entry}
use Rattle.deal_log.specs.DealTexts.{TextMap, id_in, text_of}
use Rattle.deal_log.specs.VoteLogs.{VoteLogTold}
use Rattle.deal_log.specs.Rebuilding.{IsRebuilt}
use Rattle.seat_rows.specs.declared.closing.Closing.{Closing}
use Rattle.seat_rows.specs.declared.place.SeatPlace.{SeatPlace}
use Rattle.seat_rows.specs.declared.rows.SeatRows.{SeatRows}
use Rattle.seat_rows.specs.declared.state.SeatState.{SeatState}
use Rattle.seat_rows.specs.declared.loading.Phases.{Phases}
use Rattle.seat_rows.specs.SeatPlaces.{house_of, is_first}
use Rattle.seat_rows.specs.SeatTexts.{is_text, has_handed}
use Rattle.seat_rows.specs.SeatTables.{record_tab, text_tab, phase_tab, begun_key, closing_key, closing_text, record_texts, begun_row}
use Rattle.seat_rows.specs.SeatReading.{text_rows}
use Rattle.seat_rows.specs.SeatOpening.{is_no_beginning, is_no_closing, IsAmissAt, Lacks}

abbrev pub IsBegunFault : SeatPlace → Option (List ℕ) → StoreFault → Type 0
IsBegunFault place row fault = (fault ≡ bad_row_of phase_tab begun_key)
    × (val : List ℕ) × (row ≡ Some val) × (is_no_beginning place val ≡ true)

-- The seat is closed as the row says, at the end of the records, and has begun.
abbrev pub IsClosedBy : Option ℕ → ℕ → Option (List ℕ) → Option Closing → Type 0
IsClosedBy begun records row closing = (row ≡ option_map closing_text closing)
    × IfSome closing (λ c. (c.len ≡ records) × IsSome begun)

abbrev pub IsClosingFault : Option ℕ → ℕ → Option (List ℕ) → StoreFault → Type 0
IsClosingFault begun records row fault = (fault ≡ bad_row_of phase_tab closing_key)
    × (val : List ℕ) × (row ≡ Some val)
    × ((is_no_closing records val ≡ true) ⊎ (begun ≡ None))

abbrev pub IsEarlyFault : Option ℕ → List Row → StoreFault → Type 0
IsEarlyFault begun records fault = (begun ≡ None)
    × (row : Row) × (slice_get records 0 ≡ Some row) × (fault ≡ bad_row_of record_tab row.key)

-- the log keeps the text
abbrev pub holds_text : TextMap → List ℕ → Bool
holds_text kept text = is_text (text_of kept (id_in text)) text

abbrev pub is_unheld : TextMap → List ℕ → Bool
is_unheld kept text = not (holds_text kept text)

-- The log is made of the records and texts, and keeps all of the texts.
abbrev pub IsKeptLog : SeatPlace → List Entry → List (List ℕ) → VoteLogTold → Type 0
IsKeptLog place recs texts log = IsRebuilt (house_of place) recs texts log
    × ((text : List ℕ) → Contains texts text → holds_text log.texts text ≡ true)

-- Why there is no such log: a record is amiss, or the log keeps none of the texts or another one.
abbrev pub IsLogFault : SeatPlace → List Entry → List (List ℕ) → StoreFault → Type 0
IsLogFault place recs texts Keeper = ⊥
IsLogFault place recs texts NoMemory = Unit {0}
IsLogFault place recs texts (BadRow tab digest) =
    ((at : ℕ) × (BadRow tab digest ≡ bad_row_of record_tab (to_be_bytes w32 at))
    × IsAmissAt place recs texts at)
    ⊎ ((log : VoteLogTold) × (text : List ℕ) × IsRebuilt (house_of place) recs texts log
    × Contains texts text × (holds_text log.texts text ≡ false)
    × (BadRow tab digest ≡ bad_row_of text_tab (sha256 text)))

-- the last key has signed, and not the handover
abbrev pub IsLastFault : SeatPlace → SeatState → StoreFault → Type 0
IsLastFault place state fault =
    (length state.signer.texts ≡ state.signer.spec.size) × (has_handed place state ≡ false)
    × (fault ≡ bad_row_of 8 (to_be_bytes w32 (length state.signer.texts - 1)))

-- Why the rows have no state: a row lacks its form.
abbrev pub IsStateFault : SeatPlace → SeatRows → SignerTold → StoreFault → Type 0
IsStateFault place rows signer Keeper = ⊥
IsStateFault place rows signer NoMemory = Unit {0}
IsStateFault place rows signer (BadRow tab digest) = (row : Row) × (digest.0 ≡ sha256 row.key)
    × Lacks place signer.spec.size signer.texts rows tab row

-- The seat began and is closed as the rows say, and has no records before it began.
pub record ArePhases (place : SeatPlace) (rows : SeatRows) (phases : Phases) : Type 0 where
  pub begun : rows.begun ≡ begun_row place phases.begun
  pub first : is_first place ≡ true → phases.begun ≡ Some 0
  pub closing : IsClosedBy phases.begun (length rows.records) rows.closing phases.closing
  pub empty : phases.begun ≡ None → rows.records ≡ []

-- The log is made of the records and texts of the rows.
pub record IsLogIn (place : SeatPlace) (rows : SeatRows) (log : VoteLogTold) : Type 0 where
  pub recs : List Entry
  pub records : rows.records ≡ numbered_rows w32 0 (record_texts recs)
  pub texts : List (List ℕ)
  pub texts_are : rows.texts ≡ text_rows texts
  pub kept : IsKeptLog place recs texts log
