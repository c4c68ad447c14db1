-- The characters of a name are ASCII.
use Rattle.std.proofs.Common.{◌≡◌, ℕ, ◌<◌, zero, suc, true, ◌&&◌, ◌||◌, ◌==◌, nat_le, List, [], ◌∷◌, length, arith, ⊎_elim, IsTrue}
use Rattle.std.proofs.Common.{Result, Ok, Err, refl}
use Rattle.std.specs.Result.{IsOk, MatchResult}
use Rattle.std.specs.List.{list_all}
use Rattle.std.specs.Str.{IsAscii, IsUtf8}
use Rattle.std.proofs.lemmas.Bool.{and_parts, or_cases, leb-true, eqb-true}
use Rattle.std.proofs.lemmas.Str.{IsUtf8-from_ascii}
use Rattle.dh_base.specs.Names.{is_letter, is_digit, is_name_byte, begins_with_letter, is_name}

name_byte_ascii : (c : ℕ) → is_name_byte c ≡ true → c < 128
name_byte_ascii c e =
    ⊎_elim
    (λ (h : is_letter c ≡ true). omega (arith, leb-true c 122 (and_parts (nat_le 97 c) (nat_le c 122) h).1))
    (λ (h : (is_digit c || c == 45) ≡ true).
    ⊎_elim
    (λ (d : is_digit c ≡ true). omega (arith, leb-true c 57 (and_parts (nat_le 48 c) (nat_le c 57) d).1))
    (λ (d : (c == 45) ≡ true). omega (arith, eqb-true c 45 d))
    (or_cases (is_digit c) (c == 45) h))
    (or_cases (is_letter c) (is_digit c || c == 45) e)

all_ascii : (text : List ℕ) → list_all is_name_byte text ≡ true → IsAscii text
all_ascii [] e i = omega arith
all_ascii (c ∷ cs) e zero = name_byte_ascii c (and_parts (is_name_byte c) (list_all is_name_byte cs) e).0
all_ascii (c ∷ cs) e (suc i) = all_ascii cs (and_parts (is_name_byte c) (list_all is_name_byte cs) e).1 i

pub IsUtf8-name : (text : List ℕ) → IsTrue (is_name text) → IsUtf8 text
IsUtf8-name text e =
    let rest = (and_parts (begins_with_letter text) (list_all is_name_byte text && nat_le (length text) 16) e).1 in
    IsUtf8-from_ascii text (all_ascii text (and_parts (list_all is_name_byte text) (nat_le (length text) 16) rest).0)

-- what fails only where V fails is Ok where V holds
pub ok_where_valid : {T E : Type 0} (r : Result T E) (P : T → Type 0) (V : Type 0) (X : E → Type 0) → V → MatchResult r P (λ e. (V → ⊥) × X e) → IsOk r
ok_where_valid (Ok x) P V X valid h = refl
ok_where_valid (Err e) P V X valid h = absurd (h.0 valid)
