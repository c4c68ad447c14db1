-- How an act is read from bytes: the first field at fault, from the left.
use Rattle.std.specs.Prelude.{ℕ, ◌≡◌, ◌+◌, ◌-◌, ◌^◌, ◌==◌, ◌||◌, nat_lt, nat_le, if◌then◌else◌, Bool, List, [], ◌∷◌, length, Option, Some, None, Result, Ok, Err}
use Rattle.std.specs.Int.{w8, w16, w32, w64}
use Rattle.std.specs.Str.{bytes_eq}
use Rattle.dh_base.specs.declared.base_fault.BaseFault.{BaseFault}
use Rattle.dh_base.specs.declared.base_fault.BaseFault.TheVariants.{Short as ShortField, BadName}
use Rattle.dh_base.specs.declared.id.Id.{Id}
use Rattle.dh_base.specs.declared.outcome.Outcome.{Outcome}
use Rattle.dh_base.specs.declared.outcome.Outcome.TheVariants.{Commit, Abort}
use Rattle.dh_base.specs.Fields.{◌>>=◌, bytes_at, number_at}
use Rattle.dh_base.specs.Formats.{next_number, next_id, next_name, next_text, or_fault, unless_out_of_range, whole_of}
use Rattle.act_text.specs.declared.act.Act.{Act}
use Rattle.act_text.specs.declared.act.Act.TheVariants.{Register, Pay, Escrow, Transfer, StartDeal, Vote}
use Rattle.act_text.specs.declared.act_fault.ActFault.{ActFault}
use Rattle.act_text.specs.declared.act_fault.ActFault.TheVariants.{BadTag, Short, BadField, Trailing, NoMemory}
use Rattle.act_text.specs.declared.act_kind.ActKind.{ActKind}
use Rattle.act_text.specs.declared.act_kind.ActKind.TheVariants.{Registration, Payment, Escrowing, Move, Start, Voting}
use Rattle.act_text.specs.declared.office.Office.{Office}
use Rattle.act_text.specs.ActTexts.{act_tag, kind_numbered}

abbrev pub act_fault_of : BaseFault → ActFault
act_fault_of (ShortField at) = Short at
act_fault_of (BadName at) = BadField at

abbrev pub id_from : List ℕ → ℕ → Result (Id × ℕ) ActFault
id_from bytes at = or_fault act_fault_of (next_id bytes at)

abbrev pub name_from : List ℕ → ℕ → Result (List ℕ × ℕ) ActFault
name_from bytes at = or_fault act_fault_of (next_name bytes at)

abbrev pub text_from : List ℕ → ℕ → Result (List ℕ × ℕ) ActFault
text_from bytes at = or_fault act_fault_of (next_text bytes at)

abbrev pub turn_from : List ℕ → ℕ → Result (ℕ × ℕ) ActFault
turn_from bytes at = or_fault act_fault_of (next_number w32 bytes at)

abbrev pub index_from : List ℕ → ℕ → Result (ℕ × ℕ) ActFault
index_from bytes at = or_fault act_fault_of (next_number w16 bytes at)

abbrev pub any_amount_from : List ℕ → ℕ → Result (ℕ × ℕ) ActFault
any_amount_from bytes at = or_fault act_fault_of (next_number w64 bytes at)

-- an amount of at most 2^63 - 1
abbrev pub amount_from : List ℕ → ℕ → Result (ℕ × ℕ) ActFault
amount_from = unless_out_of_range (λ amount. nat_le (2 ^ 63) amount) BadField any_amount_from

abbrev pub any_choice_from : List ℕ → ℕ → Result (ℕ × ℕ) ActFault
any_choice_from bytes at = or_fault act_fault_of (next_number w8 bytes at)

-- the byte of a choice, 2 or 3
abbrev pub choice_byte_from : List ℕ → ℕ → Result (ℕ × ℕ) ActFault
choice_byte_from =
    unless_out_of_range (λ byte. nat_lt byte 2 || nat_lt 3 byte) BadField any_choice_from

abbrev pub choice_of : ℕ → Outcome
choice_of byte = if byte == 2 then Commit else Abort

-- the fields of an act of a kind
unfoldable pub fields_from : ActKind → List ℕ → ℕ → Result (Act × ℕ) ActFault
fields_from Registration bytes at = do
  text ← text_from bytes at
  Ok (Register text.0, text.1)
fields_from Payment bytes at = do
  house ← id_from bytes at
  ledger ← name_from bytes house.1
  to ← id_from bytes ledger.1
  asset ← name_from bytes to.1
  amount ← amount_from bytes asset.1
  Ok (Pay house.0 ledger.0 to.0 asset.0 amount.0, amount.1)
fields_from Escrowing bytes at = do
  deal ← id_from bytes at
  ledger ← name_from bytes deal.1
  asset ← name_from bytes ledger.1
  amount ← amount_from bytes asset.1
  Ok (Escrow deal.0 ledger.0 asset.0 amount.0, amount.1)
fields_from Move bytes at = do
  deal ← id_from bytes at
  ledger ← name_from bytes deal.1
  turn ← turn_from bytes ledger.1
  to ← id_from bytes turn.1
  asset ← name_from bytes to.1
  amount ← amount_from bytes asset.1
  Ok (Transfer deal.0 ledger.0 turn.0 to.0 asset.0 amount.0, amount.1)
fields_from Start bytes at = do
  text ← text_from bytes at
  Ok (StartDeal text.0, text.1)
fields_from Voting bytes at = do
  deal ← id_from bytes at
  index ← index_from bytes deal.1
  choice ← choice_byte_from bytes index.1
  Ok (Vote deal.0 index.0 (choice_of choice.0), choice.1)

abbrev pub or_bad_tag : {A : Type 0} → Option A → Result A ActFault
or_bad_tag (Some x) = Ok x
or_bad_tag None = Err BadTag

-- The kind that the tag and its number name, and the place behind them.
unfoldable pub next_kind : Office → List ℕ → ℕ → Result (ActKind × ℕ) ActFault
next_kind office bytes at = do
  tag ← or_fault (λ _. BadTag) (bytes_at 8 bytes at)
  number ← or_fault (λ _. BadTag) (number_at w8 bytes (at + 8))
  kind ← or_bad_tag (kind_numbered office number)
  if bytes_eq tag act_tag then Ok (kind, at + 9) else Err BadTag

-- The act of an office at a place, and the place behind it.
unfoldable pub act_from : Office → List ℕ → ℕ → Result (Act × ℕ) ActFault
act_from office bytes at = do
  kind ← next_kind office bytes at
  fields_from kind.0 bytes kind.1

-- all of the bytes
abbrev pub act_of : Office → List ℕ → Result Act ActFault
act_of office = whole_of Trailing (act_from office)

-- What a call answers is what reading gives, unless memory ran out.
abbrev pub Gives : {A : Type 0} → Result A ActFault → Result A ActFault → Type 0
Gives (Err NoMemory) read = Unit {0}
Gives answer read = read ≡ answer
