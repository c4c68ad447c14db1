-- What a name is: 1 to 16 characters of `a` to `z`, `0` to `9` and `-`, the first of them a letter.
use Rattle.std.specs.Prelude.{ℕ, Bool, false, ◌&&◌, ◌||◌, ◌==◌, nat_le, if◌then◌else◌, List, [], ◌∷◌, length, min}
use Rattle.std.specs.List.{list_all, prefix_len}

abbrev pub is_letter : ℕ → Bool
is_letter c = nat_le 97 c && nat_le c 122

abbrev pub is_digit : ℕ → Bool
is_digit c = nat_le 48 c && nat_le c 57

-- a letter, a digit or a dash
abbrev pub is_name_byte : ℕ → Bool
is_name_byte c = is_letter c || (is_digit c || c == 45)

abbrev pub begins_with_letter : List ℕ → Bool
begins_with_letter [] = false
begins_with_letter (c ∷ cs) = is_letter c

abbrev pub is_name : List ℕ → Bool
is_name text = begins_with_letter text && (list_all is_name_byte text && nat_le (length text) 16)

-- The first place of a text at which no name goes on: 0 where no letter begins it, and else the
-- place behind the characters that a name may have, of which there are at most sixteen.
abbrev pub bad_place : List ℕ → ℕ
bad_place text = if begins_with_letter text then min 16 (prefix_len is_name_byte text) else 0
