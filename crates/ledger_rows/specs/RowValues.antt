-- The values of a ledger's rows: how each is spelled, and what it stands for where it has its form.
use Rattle.std.specs.Prelude.{ℕ, ◌≡◌, ◌↔◌, ◌+◌, ◌<◌, ◌^◌, ◌==◌, ◌&&◌, not, nat_lt, if◌then◌else◌, List, [], ◌∷◌, ◌++◌, length, take, drop, slice_index, Option, Some, None}
use Rattle.std.specs.Int.{Width, w32, w64, byte_len, to_be_bytes, from_be_bytes}
use Rattle.std.specs.Option.{option_map, option_and_then}
use Rattle.dh_base.specs.declared.id.Id.{Id}
use Rattle.dh_base.specs.declared.outcome.Outcome.{Outcome}
use Rattle.dh_base.specs.declared.outcome.Outcome.TheVariants.{Commit, Abort}
use Rattle.dh_base.specs.Fields.{AreBytes}
use Rattle.dh_base.specs.Formats.{SpelledBy}
use Rattle.act_text.specs.StatementTexts.{settled_byte}
use Rattle.ledger_rows.specs.declared.free_amount.FreeAmount.{FreeAmount}
use Rattle.ledger_rows.specs.declared.registration.Registration.{Registration}
use Rattle.ledger_rows.specs.declared.hold.Hold.{Hold}
use Rattle.ledger_rows.specs.declared.move_count.MoveCount.{MoveCount}
use Rattle.ledger_rows.specs.declared.used_key.UsedKey.{UsedKey}
use Rattle.ledger_rows.specs.declared.entry.Entry.{Entry}
use Rattle.ledger_rows.specs.declared.entry.Entry.TheVariants.{Act, Settlement}

-- ---- how values are spelled

abbrev pub free_text : FreeAmount → List ℕ
free_text free = to_be_bytes w64 free.amount

abbrev pub registration_text : Registration → List ℕ
registration_text deal = deal.registrant.0 ++ settled_byte deal.settled ∷ deal.text

abbrev pub hold_text : Hold → List ℕ
hold_text hold = to_be_bytes w64 hold.commit ++ to_be_bytes w64 hold.abort

abbrev pub moves_text : MoveCount → List ℕ
moves_text moves = to_be_bytes w32 moves.count

abbrev pub used_text : UsedKey → List ℕ
used_text used = to_be_bytes w64 used.at ++ used.message.0

abbrev pub entry_text : Entry → List ℕ
entry_text (Act account q message) = 1 ∷ (account.0 ++ (to_be_bytes w32 q ++ message))
entry_text (Settlement deal outcome) = 2 ∷ (deal.0 ++ settled_byte (Some outcome) ∷ [])

-- ---- what bytes stand for

-- the number of that width from that place on
abbrev pub number_from : Width → ℕ → List ℕ → ℕ
number_from w at val = from_be_bytes w (take (byte_len w) (drop at val))

abbrev pub id_from : ℕ → List ℕ → Id
id_from at val = record { 0 = take 32 (drop at val) }

-- eight bytes, and not a zero
abbrev pub free_in : List ℕ → Option FreeAmount
free_in val =
    if (length val == 8) && nat_lt 0 (number_from w64 0 val)
    then Some (record { amount = number_from w64 0 val }) else None

-- how a deal has ended, by its byte
abbrev pub settled_in : ℕ → Option (Option Outcome)
settled_in byte =
    if byte == 0 then Some None else if byte == 1 then Some (Some Commit)
    else if byte == 2 then Some (Some Abort) else None

-- an account, a byte that says how the deal has ended, and the deal's text
abbrev pub registration_in : List ℕ → Option Registration
registration_in val =
    if nat_lt (length val) 33 then None
    else option_map
    (λ settled. record { registrant = id_from 0 val; settled = settled; text = drop 33 val })
    (settled_in (slice_index val 32))

-- twice eight bytes, and not two zeros
abbrev pub hold_in : List ℕ → Option Hold
hold_in val =
    if (length val == 16) && not ((number_from w64 0 val == 0) && (number_from w64 8 val == 0))
    then Some (record { commit = number_from w64 0 val; abort = number_from w64 8 val }) else None

-- four bytes, and not a zero
abbrev pub moves_in : List ℕ → Option MoveCount
moves_in val =
    if (length val == 4) && nat_lt 0 (number_from w32 0 val)
    then Some (record { count = number_from w32 0 val }) else None

-- eight bytes and a digest
abbrev pub used_in : List ℕ → Option UsedKey
used_in val =
    if length val == 40
    then Some (record { at = number_from w64 0 val; message = id_from 8 val }) else None

-- an account, four bytes and a message
abbrev pub act_in : List ℕ → Option Entry
act_in val =
    if nat_lt (length val) 37 then None
    else Some (Act (id_from 1 val) (number_from w32 33 val) (drop 37 val))

abbrev pub settlement_with : Id → Option Outcome → Option Entry
settlement_with deal settled = option_map (Settlement deal) settled

-- a deal and a byte that says how it has ended
abbrev pub settlement_in : List ℕ → Option Entry
settlement_in val =
    if not (length val == 34) then None
    else option_and_then (settlement_with (id_from 1 val)) (settled_in (slice_index val 33))

-- a byte that says which kind of entry it is, and the entry
abbrev pub entry_in : List ℕ → Option Entry
entry_in val =
    if slice_index val 0 == 1 then act_in val
    else if slice_index val 0 == 2 then settlement_in val else None

-- ---- what has a spelling

abbrev pub FreeFits : FreeAmount → Type 0
FreeFits free = (0 < free.amount) × (free.amount < 2 ^ 64)

abbrev pub RegistrationFits : Registration → Type 0
RegistrationFits deal = length deal.registrant.0 ≡ 32

abbrev pub HoldFits : Hold → Type 0
HoldFits hold =
    (0 < hold.commit + hold.abort) × (hold.commit < 2 ^ 64) × (hold.abort < 2 ^ 64)

abbrev pub MovesFit : MoveCount → Type 0
MovesFit moves = (0 < moves.count) × (moves.count < 2 ^ 32)

abbrev pub UsedFits : UsedKey → Type 0
UsedFits used = (used.at < 2 ^ 64) × (length used.message.0 ≡ 32)

abbrev pub EntryFits : Entry → Type 0
EntryFits (Act account q message) = (length account.0 ≡ 32) × (q < 2 ^ 32)
EntryFits (Settlement deal outcome) = length deal.0 ≡ 32

-- Bytes stand for a value exactly where they spell it.
abbrev pub StandsForSpelled : {V : Type 0} → (List ℕ → Option V) → (V → Type 0) → (V → List ℕ)
    → Type 0
StandsForSpelled {V} value_of fits text_of = (val : List ℕ) (value : V) → AreBytes val →
    (value_of val ≡ Some value) ↔ SpelledBy fits text_of value val
