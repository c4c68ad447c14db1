-- The bytes of hexadecimal digits, one after another.
use Rattle.std.proofs.Common.{◌≡◌, ℕ, suc, ◌+◌, ◌-◌, ◌*◌, ◌/◌, ◌%◌, ◌<◌, ◌≤◌, ◌==◌, ◌⊎◌, inl, inr, Bool, true, false, ◌&&◌, ◌||◌, leb, List, [], ◌∷◌, ◌++◌, length, take, drop, get_or, set, arith, append_assoc, refl, sym, ap, ◌∙◌, IsTrue, eqb-true}
use Rattle.std.specs.Fmt.{digit_glyph}
use Rattle.std.proofs.lemmas.Bool.{leb-true, le-leb, lt-leb, lt-ltb, le-ltb, and_parts}
use Rattle.std.proofs.lemmas.Nat.{div-mul-add, div-add-mod'}
use Rattle.dh_base.specs.Names.{is_digit}
use Rattle.dh_base.specs.Spelled.{hex_byte, hex_text}
use Rattle.std.proofs.Math.Seq.{drop-cons, take-suc-set}
use Rattle.std.specs.List.{list_all}
use Rattle.line_text.specs.IdWords.{hex_value, is_hex_digit, is_id, bytes_of_hex}

-- the byte of two digits
abbrev byte_at : List ℕ → ℕ → ℕ
byte_at word place = 16 * hex_value (get_or word (2 * place) 0) + hex_value (get_or word (2 * place + 1) 0)

two_more : (word : List ℕ) (place : ℕ) → 2 * place + 1 < length word → bytes_of_hex (drop (2 * place) word) ≡ byte_at word place ∷ bytes_of_hex (drop (2 * (place + 1)) word)
two_more word place h =
    let first : drop (2 * place) word ≡ get_or word (2 * place) 0 ∷ drop (suc (2 * place)) word = drop-cons word (2 * place) 0 (omega (arith, h)) in
    let second : drop (suc (2 * place)) word ≡ get_or word (suc (2 * place)) 0 ∷ drop (suc (suc (2 * place))) word = drop-cons word (suc (2 * place)) 0 (omega (arith, h)) in
    let next : suc (2 * place) ≡ 2 * place + 1 = omega arith in
    let after : suc (suc (2 * place)) ≡ 2 * (place + 1) = omega arith in
    let both : drop (2 * place) word ≡ get_or word (2 * place) 0 ∷ get_or word (2 * place + 1) 0 ∷ drop (2 * (place + 1)) word =
    first ∙ ap (λ (ds : List ℕ). get_or word (2 * place) 0 ∷ ds) (second ∙ (ap (λ k. get_or word k 0 ∷ drop (suc (suc (2 * place))) word) next ∙ ap (λ k. get_or word (2 * place + 1) 0 ∷ drop k word) after)) in
    ap bytes_of_hex both

pub hex_more : (bytes word : List ℕ) (place : ℕ) → place < length bytes → 2 * place + 1 < length word → take place bytes ++ bytes_of_hex (drop (2 * place) word) ≡ bytes_of_hex word → take (place + 1) (set bytes place (byte_at word place)) ++ bytes_of_hex (drop (2 * (place + 1)) word) ≡ bytes_of_hex word
hex_more bytes word place fits within whole =
    let next : place + 1 ≡ suc place = omega arith in
    let front : take (place + 1) (set bytes place (byte_at word place)) ≡ take place bytes ++ byte_at word place ∷ [] = ap (λ k. take k (set bytes place (byte_at word place))) next ∙ take-suc-set bytes place (byte_at word place) fits in
    ap (λ (xs : List ℕ). xs ++ bytes_of_hex (drop (2 * (place + 1)) word)) front
    ∙ (append_assoc (take place bytes) (byte_at word place ∷ []) (bytes_of_hex (drop (2 * (place + 1)) word))
    ∙ (ap (λ (xs : List ℕ). take place bytes ++ xs) (sym (two_more word place within)) ∙ whole))

pub id_long : (word : List ℕ) → IsTrue (is_id word) → length word ≡ 64
id_long word h = eqb-true (length word) 64 (and_parts (length word == 64) (list_all is_hex_digit word) h).0

-- ---- digits and their values

-- the values of digits: by ranges
digit_value : (c : ℕ) → ((48 ≤ c) × (c ≤ 57)) ⊎ ((97 ≤ c) × (c ≤ 102)) → (hex_value c < 16) × (digit_glyph false (hex_value c) ≡ c)
digit_value c (inl h) =
    let value : hex_value c ≡ c - 48 = rw (le-leb c 57 h.1) refl in
    let small : c - 48 < 10 = omega (arith, h.0, h.1) in
    (omega (arith, value, small), ap (digit_glyph false) value ∙ (rw (lt-ltb (c - 48) 10 small) (omega (arith, h.0))))
digit_value c (inr h) =
    let value : hex_value c ≡ c - 87 = rw (lt-leb c 57 (omega (arith, h.0))) refl in
    let large : 10 ≤ c - 87 = omega (arith, h.0) in
    (omega (arith, value, h.1), ap (digit_glyph false) value ∙ (rw (le-ltb (c - 87) 10 large) (omega (arith, h.0))))

ranges : (c : ℕ) → is_hex_digit c ≡ true → ((48 ≤ c) × (c ≤ 57)) ⊎ ((97 ≤ c) × (c ≤ 102))
ranges c h = by_digit (is_digit c) refl h
  where
    by_digit : (b : Bool) → is_digit c ≡ b → (b || (leb 97 c && leb c 102)) ≡ true → ((48 ≤ c) × (c ≤ 57)) ⊎ ((97 ≤ c) × (c ≤ 102))
    by_digit true e h = let p = and_parts (leb 48 c) (leb c 57) e in inl (leb-true 48 c p.0, leb-true c 57 p.1)
    by_digit false e h = let p = and_parts (leb 97 c) (leb c 102) h in inr (leb-true 97 c p.0, leb-true c 102 p.1)

byte_again : (c d : ℕ) → is_hex_digit c ≡ true → is_hex_digit d ≡ true → hex_byte (16 * hex_value c + hex_value d) ≡ c ∷ d ∷ []
byte_again c d hc hd =
    let high = digit_value c (ranges c hc) in
    let low = digit_value d (ranges d hd) in
    let turned : 16 * hex_value c + hex_value d ≡ hex_value c * 16 + hex_value d = omega arith in
    let high_is : (16 * hex_value c + hex_value d) / 16 ≡ hex_value c = ap (λ n. n / 16) turned ∙ div-mul-add (hex_value c) 16 (hex_value d) low.0 in
    let low_is : (16 * hex_value c + hex_value d) % 16 ≡ hex_value d = omega (arith, div-add-mod' (16 * hex_value c + hex_value d) 16, high_is) in
    rw (high_is, low_is, high.1, low.1) refl

-- the length of a list of pairs of digits is even
pub record IsEven (n : ℕ) : Type 0 where
  pub half : ℕ
  pub twice : n ≡ 2 * half

pub hex_again : (word : List ℕ) → IsEven (length word) → list_all is_hex_digit word ≡ true → hex_text (bytes_of_hex word) ≡ word
hex_again [] even h = refl
hex_again (c ∷ []) even h = absurd (omega (arith, even.twice))
hex_again (c ∷ d ∷ cs) even h =
    let first = and_parts (is_hex_digit c) (list_all is_hex_digit (d ∷ cs)) h in
    let second = and_parts (is_hex_digit d) (list_all is_hex_digit cs) first.1 in
    let less : IsEven (length cs) = record { half = even.half - 1; twice = omega (arith, even.twice) } in
    ap (λ (ds : List ℕ). ds ++ hex_text (bytes_of_hex cs)) (byte_again c d first.0 second.0) ∙ ap (λ (ds : List ℕ). c ∷ d ∷ ds) (hex_again cs less second.1)

pub id_again : (word : List ℕ) → IsTrue (is_id word) → hex_text (bytes_of_hex word) ≡ word
id_again word h =
    hex_again word (record { half = 32; twice = id_long word h }) (and_parts (length word == 64) (list_all is_hex_digit word) h).1
