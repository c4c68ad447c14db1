-- What the rows of a seat are read as, and which of them lack their form.
use Rattle.std.specs.Prelude.{ℕ, ◌≡◌, ◌≢◌, ◌+◌, ◌-◌, ◌<◌, ◌==◌, ◌&&◌, ◌||◌, nat_lt, Bool, false, if◌then◌else◌, List, [], ◌∷◌, ◌++◌, map, length, take, drop, slice_index, slice_get, Option, Some, None, IfSome, Result, Ok, Err}
use Rattle.std.specs.Int.{w32, to_be_bytes, from_be_bytes}
use Rattle.std.specs.FinMap.{get}
use Rattle.std.specs.Str.{bytes_eq}
use Rattle.std.specs.List.{Contains}
use Rattle.sha2.specs.Sha256.{sha256}
use Rattle.dh_base.specs.declared.id.Id.{Id}
use Rattle.keeper_core.specs.declared.row.Row.{Row}
use Rattle.keeper_core.specs.declared.store_fault.StoreFault.{StoreFault}
use Rattle.keeper_core.specs.declared.store_fault.StoreFault.TheVariants.{Keeper, BadRow, NoMemory}
use Rattle.keeper_core.specs.Tables.{Tables, rows_of}
use Rattle.keeper_core.specs.NumberedRows.{numbered_rows}
use Rattle.vote_log.specs.Entry.{Entry}
use Rattle.vote_log.specs.RecordTexts.{record_text, record_at}
use Rattle.vote_log.specs.declared.record_fault.RecordFault.{RecordFault}
use Rattle.cert_core.specs.Sets.{SetTold}
use Rattle.cert_core.specs.SetReading.{set_of}
use Rattle.cert_core.specs.declared.set_fault.SetFault.{SetFault}
use Rattle.seat_rows.specs.declared.closing.Closing.{Closing}
use Rattle.seat_rows.specs.declared.place.SeatPlace.{SeatPlace}
use Rattle.seat_rows.specs.declared.rows.SeatRows.{SeatRows}
use Rattle.seat_rows.specs.SeatTables.{form_tab, record_tab, text_tab, phase_tab, form_key, begun_key, closing_key, record_texts}

-- ---- what is found

abbrev pub rows_in : Tables → SeatRows
rows_in tables = record {
  form = get tables (form_tab, form_key);
  begun = get tables (phase_tab, begun_key);
  closing = get tables (phase_tab, closing_key);
  records = rows_of record_tab tables;
  texts = rows_of text_tab tables;
}

-- the fault is the keeper's, or want of memory
abbrev pub IsStoreOnly : StoreFault → Type 0
IsStoreOnly Keeper = Unit {0}
IsStoreOnly (BadRow tab key) = ⊥
IsStoreOnly NoMemory = Unit {0}

-- ---- what a row is read as

-- the identity of a seat, behind the form of the tables and the role of a seat
abbrev pub form_in : List ℕ → Option Id
form_in val =
    if (length val == 34) && ((slice_index val 0 == 1) && (slice_index val 1 == 2))
    then Some (record { 0 = drop 2 val }) else None

abbrev pub length_in : List ℕ → Option ℕ
length_in val = if length val == 4 then Some (from_be_bytes w32 val) else None

abbrev pub closing_for : ℕ → Result SetTold SetFault → Option Closing
closing_for len (Ok next) = Some (record { len = len; next = next })
closing_for len (Err fault) = None

-- a length and the text of a set, which has at most 526 bytes
abbrev pub closing_in : List ℕ → Option Closing
closing_in val =
    if nat_lt (length val) 4 || nat_lt 530 (length val) then None
    else closing_for (from_be_bytes w32 (take 4 val)) (set_of (drop 4 val))

-- a record that is spelled so
abbrev pub spelled_so : List ℕ → Result Entry RecordFault → Option Entry
spelled_so val (Ok entry) = if bytes_eq (record_text entry) val then Some entry else None
spelled_so val (Err fault) = None

-- the record of that number
abbrev pub record_in : ℕ → Row → Option Entry
record_in at row =
    if nat_lt at 4096 && (bytes_eq row.key (to_be_bytes w32 at) && (length row.val == 35))
    then spelled_so row.val (record_at row.val 0) else None

-- the text stands under its digest
abbrev pub is_named : Row → Bool
is_named row = bytes_eq row.key (sha256 row.val)

-- texts under their digests
abbrev pub text_rows : List (List ℕ) → List Row
text_rows texts = map (λ text. record { key = sha256 text; val = text }) texts

-- ---- rows that are not read

-- Behind rows of records the first row that is not that of the next number.
pub record IsNoRecord (rows : List Row) (row : Row) : Type 0 where
  pub recs : List Entry
  pub behind : List Row
  pub parted : rows ≡ numbered_rows w32 0 (record_texts recs) ++ row ∷ behind
  pub amiss : record_in (length recs) row ≡ None

abbrev pub IsRecordFault : List Row → StoreFault → Type 0
IsRecordFault rows Keeper = ⊥
IsRecordFault rows (BadRow tab digest) = (tab ≡ record_tab) × (row : Row)
    × (digest.0 ≡ sha256 row.key) × IsNoRecord rows row
IsRecordFault rows NoMemory = Unit {0}

-- Behind texts under their digests the first row that is not one.
pub record IsNoText (rows : List Row) (row : Row) : Type 0 where
  pub texts : List (List ℕ)
  pub behind : List Row
  pub parted : rows ≡ text_rows texts ++ row ∷ behind
  pub amiss : is_named row ≡ false

abbrev pub IsTextFault : List Row → StoreFault → Type 0
IsTextFault rows Keeper = ⊥
IsTextFault rows (BadRow tab digest) = (tab ≡ text_tab) × (row : Row)
    × (digest.0 ≡ sha256 row.key) × IsNoText rows row
IsTextFault rows NoMemory = Unit {0}
