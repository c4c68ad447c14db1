-- Pairs of digits and the bytes that they stand for.
use Rattle.std.proofs.Common.{◌≡◌, ℕ, ◌+◌, ◌-◌, ◌*◌, ◌<◌, ◌≤◌, Bool, true, false, ◌&&◌, ◌||◌, leb, Option, Some, None, List, [], ◌∷◌, ◌++◌, length, take, drop, get_or, refl, sym, ap, subst, ◌∙◌, arith, append_assoc}
use Rattle.std.specs.Prelude.{option_map}
use Rattle.std.specs.List.{AllByRecursion}
use Rattle.std.proofs.lemmas.Bool.{and_parts, and_from, leb-true, le-leb, lt-leb}
use Rattle.std.proofs.lemmas.List.{take_all}
use Rattle.std.proofs.lemmas.Option.{cond_some}
use Rattle.dh_base.specs.Names.{is_digit}
use Rattle.dh_base.specs.Spelled.{hex_text}
use Rattle.line_text.specs.IdWords.{is_hex_digit, hex_value}
use Rattle.line_text.specs.Reading.{◌>>=◌}
use Rattle.line_text.proofs.HexAgain.{bytes_again, digits_all}
use Rattle.line_text.proofs.HexWords.{IsEven, hex_again}
use Rattle.line_text.proofs.WordReading.{bind_some, some_is}
use Rattle.house_words.specs.WordKinds.{hex_digit, hex_pairs, hex_bytes}
use Rattle.house_words.specs.Spelled.{SpellsWord, Hexadecimal}

-- ---- going over the pairs

onto : (bytes : List ℕ) (byte : ℕ) (behind : Option (List ℕ)) → option_map (λ (bs : List ℕ). (bytes ++ byte ∷ []) ++ bs) behind ≡ option_map (λ (bs : List ℕ). bytes ++ bs) (behind >>= λ bs. Some (byte ∷ bs))
onto bytes byte None = refl
onto bytes byte (Some bs) = ap Some (append_assoc bytes (byte ∷ []) bs)

-- one byte more in front of the digits left
pub pairs_more : (bytes : List ℕ) (c d : ℕ) (cs : List ℕ) (high low : ℕ) (all : Option (List ℕ)) → hex_digit c ≡ Some high → hex_digit d ≡ Some low → option_map (λ (bs : List ℕ). bytes ++ bs) (hex_pairs (c ∷ d ∷ cs)) ≡ all → option_map (λ (bs : List ℕ). (bytes ++ (16 * high + low) ∷ []) ++ bs) (hex_pairs cs) ≡ all
pairs_more bytes c d cs high low all hc hd whole =
    let step : hex_pairs (c ∷ d ∷ cs) ≡ (hex_pairs cs >>= λ bs. Some ((16 * high + low) ∷ bs)) = rw (hc, hd) refl in
    onto bytes (16 * high + low) (hex_pairs cs) ∙ (ap (option_map (λ (bs : List ℕ). bytes ++ bs)) (sym step) ∙ whole)

-- the same, where the digits are taken from the front of those left
pub pairs_taken : (bytes rest more : List ℕ) (high low : ℕ) (all : Option (List ℕ)) → 2 ≤ length rest → Some high ≡ hex_digit (get_or rest 0 0) → Some low ≡ hex_digit (get_or rest 1 0) → more ≡ bytes ++ (16 * high + low) ∷ [] → option_map (λ (bs : List ℕ). bytes ++ bs) (hex_pairs rest) ≡ all → option_map (λ (bs : List ℕ). more ++ bs) (hex_pairs (take (length rest - 2) (drop 2 rest))) ≡ all
pairs_taken bytes [] more high low all long hc hd push whole = absurd (omega (arith, long))
pairs_taken bytes (c ∷ []) more high low all long hc hd push whole = absurd (omega (arith, long))
pairs_taken bytes (c ∷ d ∷ cs) more high low all long hc hd push whole =
    let behind : take (length (c ∷ d ∷ cs) - 2) cs ≡ cs = take_all (length (c ∷ d ∷ cs) - 2) cs (omega arith) in
    rw (push, behind) (pairs_more bytes c d cs high low all (sym hc) (sym hd) whole)

-- ---- digits and the bytes that they spell

value_small : (c : ℕ) → is_hex_digit c ≡ true → hex_value c < 16
value_small c h = by_digit (is_digit c) refl h
  where
    by_digit : (b : Bool) → is_digit c ≡ b → (b || (leb 97 c && leb c 102)) ≡ true → hex_value c < 16
    by_digit true e h =
        let p = and_parts (leb 48 c) (leb c 57) e in
        let above : 48 ≤ c = leb-true 48 c p.0 in
        let below : c ≤ 57 = leb-true c 57 p.1 in
        rw (le-leb c 57 below) (omega (arith, above, below))
    by_digit false e h =
        let p = and_parts (leb 97 c) (leb c 102) h in
        let above : 97 ≤ c = leb-true 97 c p.0 in
        let below : c ≤ 102 = leb-true c 102 p.1 in
        rw (lt-leb c 57 (omega (arith, above))) (omega (arith, above, below))

-- the bytes are bytes, and the word spells them
abbrev pub IsHexOf : List ℕ → List ℕ → Type 0
IsHexOf bytes word = AllByRecursion (λ byte. byte < 256) bytes × (word ≡ hex_text bytes)

pub pairs_text : (word bytes : List ℕ) → hex_pairs word ≡ Some bytes → IsHexOf bytes word
pairs_text [] bytes e = subst (λ (bs : List ℕ). IsHexOf bs []) (some_is [] bytes e) (tt, refl)
pairs_text (c ∷ []) bytes e = absurd cc
pairs_text (c ∷ d ∷ cs) bytes e =
    let a = bind_some (hex_digit c) (λ high. hex_digit d >>= λ low. hex_pairs cs >>= λ bs. Some ((16 * high + low) ∷ bs)) bytes e in
    let b = bind_some (hex_digit d) (λ low. hex_pairs cs >>= λ bs. Some ((16 * a.0 + low) ∷ bs)) bytes a.2 in
    let r = bind_some (hex_pairs cs) (λ bs. Some ((16 * a.0 + b.0) ∷ bs)) bytes b.2 in
    let hc = cond_some (is_hex_digit c) (hex_value c) a.0 a.1 in
    let hd = cond_some (is_hex_digit d) (hex_value d) b.0 b.1 in
    let behind = pairs_text cs r.0 r.1 in
    let small : 16 * hex_value c + hex_value d < 256 = omega (arith, value_small c hc.0, value_small d hd.0) in
    let pair : hex_text ((16 * hex_value c + hex_value d) ∷ []) ≡ c ∷ d ∷ [] = hex_again (c ∷ d ∷ []) (record { half = 1; twice = refl }) (and_from (is_hex_digit c) (is_hex_digit d && true) hc.0 (and_from (is_hex_digit d) true hd.0 refl)) in
    let word : c ∷ d ∷ cs ≡ hex_text ((16 * hex_value c + hex_value d) ∷ r.0) = ap (λ (ds : List ℕ). c ∷ d ∷ ds) behind.1 ∙ ap (λ (ds : List ℕ). ds ++ hex_text r.0) (sym pair) in
    let values : 16 * hex_value c + hex_value d ≡ 16 * a.0 + b.0 = omega (arith, hc.1, hd.1) in
    let whole : (16 * hex_value c + hex_value d) ∷ r.0 ≡ bytes = ap (λ v. v ∷ r.0) values ∙ some_is ((16 * a.0 + b.0) ∷ r.0) bytes r.2 in
    subst (λ (bs : List ℕ). IsHexOf bs (c ∷ d ∷ cs)) whole ((small, behind.0), word)

pair_read : (c d : ℕ) (cs : List ℕ) (byte : ℕ) (bytes : List ℕ) → is_hex_digit c ≡ true → is_hex_digit d ≡ true → 16 * hex_value c + hex_value d ≡ byte → hex_pairs cs ≡ Some bytes → hex_pairs (c ∷ d ∷ cs) ≡ Some (byte ∷ bytes)
pair_read c d cs byte bytes hc hd value behind = rw (hc, hd, behind) (ap (λ v. Some (v ∷ bytes)) value)

head_is : (x y : ℕ) → x ∷ [] ≡ y ∷ [] → x ≡ y
head_is x y e = cc

pub pairs_again : (bytes : List ℕ) → AllByRecursion (λ byte. byte < 256) bytes → hex_pairs (hex_text bytes) ≡ Some bytes
pairs_again [] h = refl
pairs_again (byte ∷ bytes) h =
    let first = and_parts _ _ (digits_all (byte ∷ []) (h.0, tt)) in
    let second = and_parts _ _ first.1 in
    pair_read _ _ (hex_text bytes) byte bytes first.0 second.0 (head_is _ byte (bytes_again (byte ∷ []) (h.0, tt))) (pairs_again bytes h.1)

-- ---- a word of one pair at least

some_bytes : (c : ℕ) (cs bytes : List ℕ) → IsHexOf bytes (c ∷ cs) → SpellsWord (Hexadecimal bytes) (c ∷ cs)
some_bytes c cs [] h = absurd (let e : c ∷ cs ≡ [] = h.1 in cc)
some_bytes c cs (byte ∷ bytes) h = (h.0, omega arith, h.1)

pub hex_spells : (word bytes : List ℕ) → hex_bytes word ≡ Some bytes → SpellsWord (Hexadecimal bytes) word
hex_spells [] bytes e = absurd cc
hex_spells (c ∷ cs) bytes e = some_bytes c cs bytes (pairs_text (c ∷ cs) bytes e)

pub hex_again_read : (bytes word : List ℕ) → SpellsWord (Hexadecimal bytes) word → hex_bytes word ≡ Some bytes
hex_again_read [] word h = absurd (omega (arith, h.1))
hex_again_read (byte ∷ bytes) word h = ap hex_bytes h.2 ∙ pairs_again (byte ∷ bytes) h.0
