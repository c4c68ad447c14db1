-- The texts of records: one spelling each, and the first field at fault.
use Rattle.std.specs.Prelude.{ℕ, ◌≡◌, ◌==◌, ◌||◌, Bool, nat_lt, nat_le, if◌then◌else◌, List, ◌∷◌, ◌++◌, length, Result, Ok, Err}
use Rattle.std.specs.Int.{w8, w16, to_be_bytes}
use Rattle.dh_base.specs.declared.base_fault.BaseFault.{BaseFault}
use Rattle.dh_base.specs.declared.base_fault.BaseFault.TheVariants.{Short, BadName}
use Rattle.dh_base.specs.declared.id.Id.{Id}
use Rattle.dh_base.specs.Fields.{◌>>=◌, StandsAt}
use Rattle.dh_base.specs.Formats.{next_number, next_id, or_fault, unless_out_of_range}
use Rattle.dh_base.specs.Limits.{most_parties}
use Rattle.vote_log.specs.declared.kind.Kind.{Kind}
use Rattle.vote_log.specs.declared.kind.Kind.TheVariants.{Start, Commit, Abort}
use Rattle.vote_log.specs.declared.record_fault.RecordFault.{RecordFault}
use Rattle.vote_log.specs.Entry.{Entry, IsInRange}

abbrev pub kind_byte : Kind → ℕ
kind_byte Start = 1
kind_byte Commit = 2
kind_byte Abort = 3

-- the kind, the number in two bytes, and the deal: 35 bytes
abbrev pub record_text : Entry → List ℕ
record_text entry = kind_byte entry.kind ∷ (to_be_bytes w16 entry.num ++ entry.deal.0)

-- what has a text
abbrev pub IsRecord : Entry → Type 0
IsRecord entry = IsInRange entry.kind entry.num × (length entry.deal.0 ≡ 32)

-- The text of the record stands in the bytes at that place.
abbrev pub IsRecordAt : List ℕ → ℕ → Entry → Type 0
IsRecordAt bytes at entry = IsRecord entry × StandsAt (record_text entry) bytes at

-- ---- the first field at fault

abbrev pub field_fault : ℕ → RecordFault
field_fault at = record { at = at }

abbrev pub record_fault_of : BaseFault → RecordFault
record_fault_of (Short at) = field_fault at
record_fault_of (BadName at) = field_fault at

abbrev pub any_kind_from : List ℕ → ℕ → Result (ℕ × ℕ) RecordFault
any_kind_from bytes at = or_fault record_fault_of (next_number w8 bytes at)

abbrev pub is_no_kind : ℕ → Bool
is_no_kind byte = byte == 0 || nat_lt 3 byte

abbrev pub kind_of : ℕ → Kind
kind_of byte = if byte == 1 then Start else if byte == 2 then Commit else Abort

-- the kind of the byte at a place, and the place behind it
abbrev pub kind_from : List ℕ → ℕ → Result (Kind × ℕ) RecordFault
kind_from bytes at =
    unless_out_of_range is_no_kind field_fault any_kind_from bytes at >>= λ byte.
    Ok (kind_of byte.0, byte.1)

abbrev pub any_num_from : List ℕ → ℕ → Result (ℕ × ℕ) RecordFault
any_num_from bytes at = or_fault record_fault_of (next_number w16 bytes at)

abbrev pub is_out_of_range : Kind → ℕ → Bool
is_out_of_range Start parties = nat_lt parties 2 || nat_lt most_parties parties
is_out_of_range Commit index = nat_le most_parties index
is_out_of_range Abort index = nat_le most_parties index

-- the number of a record of that kind
abbrev pub num_from : Kind → List ℕ → ℕ → Result (ℕ × ℕ) RecordFault
num_from kind = unless_out_of_range (is_out_of_range kind) field_fault any_num_from

abbrev pub deal_from : List ℕ → ℕ → Result (Id × ℕ) RecordFault
deal_from bytes at = or_fault record_fault_of (next_id bytes at)

-- The record at a place, and the place behind it.
unfoldable pub record_from : List ℕ → ℕ → Result (Entry × ℕ) RecordFault
record_from bytes at = do
  kind ← kind_from bytes at
  num ← num_from kind.0 bytes kind.1
  deal ← deal_from bytes num.1
  Ok (record { kind = kind.0; num = num.0; deal = deal.0 }, deal.1)

-- the record at a place
abbrev pub record_at : List ℕ → ℕ → Result Entry RecordFault
record_at bytes at = record_from bytes at >>= λ read. Ok read.0
