-- Ids as words: 64 lower-case hexadecimal digits, two for each byte.
use Rattle.std.specs.Prelude.{ℕ, ◌≡◌, ◌<◌, ◌+◌, ◌-◌, ◌*◌, Bool, ◌&&◌, ◌||◌, ◌==◌, nat_le, if◌then◌else◌, List, [], ◌∷◌, length, Option, Some, None}
use Rattle.std.specs.List.{list_all, AllByRecursion}
use Rattle.dh_base.specs.Names.{is_digit}
use Rattle.dh_base.specs.declared.id.Id.{Id}

-- a decimal digit or one of the letters `a` to `f`
abbrev pub is_hex_digit : ℕ → Bool
is_hex_digit c = is_digit c || (nat_le 97 c && nat_le c 102)

abbrev pub hex_value : ℕ → ℕ
hex_value c = if nat_le c 57 then c - 48 else c - 87

-- the bytes that digits stand for, two for each byte
abbrev pub bytes_of_hex : List ℕ → List ℕ
bytes_of_hex [] = []
bytes_of_hex (c ∷ []) = []
bytes_of_hex (c ∷ d ∷ cs) = (16 * hex_value c + hex_value d) ∷ bytes_of_hex cs

abbrev pub is_id : List ℕ → Bool
is_id word = length word == 64 && list_all is_hex_digit word

abbrev pub id_of : List ℕ → Option Id
id_of word = if is_id word then Some (record { 0 = bytes_of_hex word }) else None

-- an id is 32 bytes
abbrev pub IsId : Id → Type 0
IsId id = (length id.0 ≡ 32) × AllByRecursion (λ byte. byte < 256) id.0
