-- The fields of a byte text: how each is spelled, and how it is read at a place.
use Rattle.std.specs.Prelude.{ℕ, ◌≡◌, ◌+◌, ◌^◌, ◌<◌, ◌≤◌, ◌==◌, ◌||◌, ◌↔◌, nat_lt, if◌then◌else◌, List, ◌∷◌, length, take, drop, slice_index, Result, Ok, Err}
use Rattle.std.specs.Int.{Width, w8, byte_len, from_be_bytes, to_be_bytes}
use Rattle.dh_base.specs.declared.base_fault.BaseFault.{BaseFault}
use Rattle.dh_base.specs.declared.base_fault.BaseFault.TheVariants.{Short, BadName}
use Rattle.dh_base.specs.declared.id.Id.{Id}
use Rattle.dh_base.specs.Names.{is_name}

-- The text stands in the bytes at that place.
pub record StandsAt (text bytes : List ℕ) (at : ℕ) : Type 0 where
  pub fits : at + length text ≤ length bytes
  pub here : take (length text) (drop at bytes) ≡ text

-- each is a byte
abbrev pub AreBytes : List ℕ → Type 0
AreBytes bytes = (i : ℕ) → slice_index bytes i < 256

infixl 10 ◌>>=◌
abbrev pub ◌>>=◌ : {A B F : Type 0} → Result A F → (A → Result B F) → Result B F
(Ok x) >>= f = f x
(Err e) >>= f = Err e

-- n bytes at a place, or Short there where the bytes end first
abbrev pub bytes_at : ℕ → List ℕ → ℕ → Result (List ℕ) BaseFault
bytes_at n bytes at =
    if nat_lt (length bytes) (at + n) then Err (Short at) else Ok (take n (drop at bytes))

abbrev pub number_at : Width → List ℕ → ℕ → Result ℕ BaseFault
number_at w bytes at = bytes_at (byte_len w) bytes at >>= λ field. Ok (from_be_bytes w field)

abbrev pub id_at : List ℕ → ℕ → Result Id BaseFault
id_at bytes at = bytes_at 32 bytes at >>= λ field. Ok (record { 0 = field })

-- a name: a byte that says how many characters it has, and the characters
abbrev pub name_field : List ℕ → List ℕ
name_field name = length name ∷ name

-- A length that no name has is BadName even where the bytes end behind it.
unfoldable pub name_at : List ℕ → ℕ → Result (List ℕ) BaseFault
name_at bytes at = do
  len ← number_at w8 bytes at
  if len == 0 || nat_lt 16 len then Err (BadName at)
      else if nat_lt (length bytes) (at + 1 + len) then Err (Short at)
      else if is_name (take len (drop (at + 1) bytes)) then Ok (take len (drop (at + 1) bytes))
      else Err (BadName at)

-- A number of that width is taken at a place exactly where it stands there.
abbrev pub TakenWhereItStands : Width → Type 0
TakenWhereItStands w = (bytes : List ℕ) (at n : ℕ) → AreBytes bytes →
    (number_at w bytes at ≡ Ok n) ↔ ((n < 256 ^ byte_len w) × StandsAt (to_be_bytes w n) bytes at)
