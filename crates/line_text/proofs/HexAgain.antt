-- The digits of bytes are read as those bytes.
use Rattle.std.proofs.Common.{◌≡◌, ℕ, ◌+◌, ◌*◌, ◌/◌, ◌%◌, ◌<◌, ◌≤◌, ◌==◌, Bool, true, false, not, ltb, List, [], ◌∷◌, length, arith, refl, ap, ◌∙◌, IsTrue, eq-eqb}
use Rattle.std.specs.Fmt.{digit_glyph}
use Rattle.std.specs.List.{list_all, AllByRecursion}
use Rattle.std.proofs.lemmas.Bool.{and_from, le-leb, lt-leb, ltb-true, ltb-false, ne_eqb, not_from_false}
use Rattle.std.proofs.lemmas.Nat.{div-add-mod'}
use Rattle.dh_base.specs.Spelled.{hex_text}
use Rattle.dh_base.specs.declared.id.Id.{Id}
use Rattle.line_text.specs.Bytes.{lacks}
use Rattle.line_text.specs.IdWords.{is_hex_digit, hex_value, is_id, bytes_of_hex, IsId}

-- what is known of the digit of a value
pub record IsDigitOf (v : ℕ) : Type 0 where
  pub digit : is_hex_digit (digit_glyph false v) ≡ true
  pub value : hex_value (digit_glyph false v) ≡ v
  pub high : 48 ≤ digit_glyph false v

glyph : (v : ℕ) → v < 16 → IsDigitOf v
glyph v h = by_size (ltb v 10) refl
  where
    by_size : (b : Bool) → ltb v 10 ≡ b → IsDigitOf v
    by_size true e =
        let small : v < 10 = ltb-true v 10 e in
        let is : digit_glyph false v ≡ 48 + v = rw e refl in
        let digit : is_hex_digit (48 + v) ≡ true = rw (le-leb 48 (48 + v) (omega arith), le-leb (48 + v) 57 (omega (arith, small))) refl in
        let value : hex_value (48 + v) ≡ v = rw (le-leb (48 + v) 57 (omega (arith, small))) (omega arith) in
        record { digit = ap is_hex_digit is ∙ digit; value = ap hex_value is ∙ value; high = omega (arith, is) }
    by_size false e =
        let large : 10 ≤ v = ltb-false v 10 e in
        let is : digit_glyph false v ≡ 87 + v = rw e refl in
        let digit : is_hex_digit (87 + v) ≡ true = rw (le-leb 48 (87 + v) (omega arith), lt-leb (87 + v) 57 (omega (arith, large)), le-leb 97 (87 + v) (omega (arith, large)), le-leb (87 + v) 102 (omega (arith, h))) refl in
        let value : hex_value (87 + v) ≡ v = rw (lt-leb (87 + v) 57 (omega (arith, large))) (omega arith) in
        record { digit = ap is_hex_digit is ∙ digit; value = ap hex_value is ∙ value; high = omega (arith, is) }

-- the two digits of a byte
high_of : (byte : ℕ) → byte < 256 → byte / 16 < 16
high_of byte h = omega (arith, h, div-add-mod' byte 16)

low_of : (byte : ℕ) → byte % 16 < 16
low_of byte = omega arith

pub bytes_again : (bytes : List ℕ) → AllByRecursion (λ byte. byte < 256) bytes → bytes_of_hex (hex_text bytes) ≡ bytes
bytes_again [] h = refl
bytes_again (byte ∷ bytes) h =
    let high = glyph (byte / 16) (high_of byte h.0) in
    let low = glyph (byte % 16) (low_of byte) in
    let here : 16 * hex_value (digit_glyph false (byte / 16)) + hex_value (digit_glyph false (byte % 16)) ≡ byte = omega (arith, high.value, low.value, div-add-mod' byte 16) in
    ap (λ b. b ∷ bytes_of_hex (hex_text bytes)) here ∙ ap (λ (bs : List ℕ). byte ∷ bs) (bytes_again bytes h.1)

pub digits_all : (bytes : List ℕ) → AllByRecursion (λ byte. byte < 256) bytes → list_all is_hex_digit (hex_text bytes) ≡ true
digits_all [] h = refl
digits_all (byte ∷ bytes) h =
    let high = glyph (byte / 16) (high_of byte h.0) in
    let low = glyph (byte % 16) (low_of byte) in
    and_from (is_hex_digit (digit_glyph false (byte / 16))) _ high.digit (and_from (is_hex_digit (digit_glyph false (byte % 16))) _ low.digit (digits_all bytes h.1))

digits_long : (bytes : List ℕ) → length (hex_text bytes) ≡ 2 * length bytes
digits_long [] = refl
digits_long (byte ∷ bytes) = omega (arith, digits_long bytes)

pub hex_lacks : (other : ℕ) (bytes : List ℕ) → other < 48 → AllByRecursion (λ byte. byte < 256) bytes → IsTrue (lacks other (hex_text bytes))
hex_lacks other [] low h = refl
hex_lacks other (byte ∷ bytes) less h =
    let high = glyph (byte / 16) (high_of byte h.0) in
    let low = glyph (byte % 16) (low_of byte) in
    and_from (not (digit_glyph false (byte / 16) == other)) _ (not_from_false _ (ne_eqb (digit_glyph false (byte / 16)) other (λ e. omega (arith, e, high.high, less))))
    (and_from (not (digit_glyph false (byte % 16) == other)) _ (not_from_false _ (ne_eqb (digit_glyph false (byte % 16)) other (λ e. omega (arith, e, low.high, less)))) (hex_lacks other bytes less h.1))

pub id_is : (id : Id) → IsId id → is_id (hex_text id.0) ≡ true
id_is id h = and_from (length (hex_text id.0) == 64) (list_all is_hex_digit (hex_text id.0)) (eq-eqb (length (hex_text id.0)) 64 (omega (arith, digits_long id.0, h.0))) (digits_all id.0 h.1)
