-- In the words that spell values stands neither a space nor a line feed.
use Rattle.std.proofs.Common.{◌≡◌, ℕ, ◌<◌, ◌≤◌, ◌^◌, Bool, true, not, ◌&&◌, eqb, leb, Option, Some, None, List, [], ◌∷◌, map, refl, sym, subst, arith, IsTrue}
use Rattle.std.specs.Char.{is_ascii_digit}
use Rattle.std.specs.Str.{all_ascii_digits}
use Rattle.std.specs.Str.Parse.{digits_value}
use Rattle.std.specs.List.{list_all}
use Rattle.std.proofs.lemmas.Bool.{and_parts, and_from, leb-true, ne_eqb, not_from_false}
use Rattle.std.proofs.lemmas.Option.{cond_some}
use Rattle.line_text.specs.Bytes.{lacks}
use Rattle.line_text.specs.Numbers.{is_number, number_of}
use Rattle.line_text.proofs.HexAgain.{hex_lacks}
use Rattle.line_text.proofs.Plain.{lacks-name, lacks-decimal}
use Rattle.line_text.proofs.PlainWords.{IsPlain, AllPlain}
use Rattle.line_text.proofs.WordReading.{Words}
use Rattle.script_lines.specs.WordLists.{SpellsNumber}
use Rattle.house_words.specs.Spelled.{LineWord, Fixed, Named, Number, LongNumber, Amount, Hexadecimal, SpellsLongNumber, SpellsWord, SpellWords}

-- a text that stands as it is has neither
abbrev pub is_plain_value : LineWord → Bool
is_plain_value (Fixed text) = lacks 32 text && lacks 10 text
is_plain_value (Named name) = true
is_plain_value (Number number) = true
is_plain_value (LongNumber number) = true
is_plain_value (Amount amount) = true
is_plain_value (Hexadecimal bytes) = true

digits_lack : (byte : ℕ) (word : List ℕ) → byte < 48 → all_ascii_digits word ≡ true → IsTrue (lacks byte word)
digits_lack byte [] low h = refl
digits_lack byte (c ∷ cs) low h =
    let parts = and_parts (is_ascii_digit c) (all_ascii_digits cs) h in
    let above : 48 ≤ c = leb-true 48 c (and_parts (leb 48 c) (leb c 57) parts.0).0 in
    and_from (not (eqb c byte)) (lacks byte cs) (not_from_false (eqb c byte) (ne_eqb c byte (λ same. omega arith))) (digits_lack byte cs low parts.1)

number_digits : (word : List ℕ) → is_number word ≡ true → all_ascii_digits word ≡ true
number_digits [] h = absurd cc
number_digits (c ∷ []) h = and_from (is_ascii_digit c) true h refl
number_digits (c ∷ d ∷ cs) h = (and_parts (not (eqb c 48)) (all_ascii_digits (c ∷ d ∷ cs)) h).1

digits_plain : (word : List ℕ) (n : ℕ) → number_of word ≡ Some n → IsPlain word
digits_plain word n e =
    let digits = number_digits word (cond_some (is_number word) (digits_value 10 word) n e).0 in
    (digits_lack 32 word (omega arith) digits, digits_lack 10 word (omega arith) digits)

number_plain : (o : Option ℕ) (word : List ℕ) → SpellsNumber o word → IsPlain word
number_plain None word h = digits_plain word h.0 h.2
number_plain (Some n) word h = subst IsPlain (sym h.1) (lacks-decimal n (omega arith))

long_plain : (o : Option ℕ) (word : List ℕ) → SpellsLongNumber o word → IsPlain word
long_plain None word h = digits_plain word h.0 h.2
long_plain (Some n) word h = subst IsPlain (sym h.1) (lacks-decimal n h.0)

value_plain : (value : LineWord) (word : List ℕ) → is_plain_value value ≡ true → SpellsWord value word → IsPlain word
value_plain (Fixed text) word h s = subst IsPlain (sym s) (let p = and_parts (lacks 32 text) (lacks 10 text) h in (p.0, p.1))
value_plain (Named name) word h s = subst IsPlain (sym s.1) (lacks-name name s.0)
value_plain (Number number) word h s = number_plain number word s
value_plain (LongNumber number) word h s = long_plain number word s
value_plain (Amount amount) word h s = subst IsPlain (sym s.1) (lacks-decimal amount (omega arith))
value_plain (Hexadecimal bytes) word h s = subst IsPlain (sym s.2) (hex_lacks 32 bytes (omega arith) s.0, hex_lacks 10 bytes (omega arith) s.0)

pub values_plain : (values : List LineWord) (words : Words) → list_all is_plain_value values ≡ true → SpellWords values words → AllPlain words
values_plain [] [] h s = tt
values_plain [] (w ∷ ws) h s = absurd s
values_plain (v ∷ vs) [] h s = absurd s
values_plain (v ∷ vs) (w ∷ ws) h s =
    let parts = and_parts (is_plain_value v) (list_all is_plain_value vs) h in
    (value_plain v w parts.0 s.0, values_plain vs ws parts.1 s.1)

pub named_plain : (names : Words) → list_all is_plain_value (map Named names) ≡ true
named_plain [] = refl
named_plain (n ∷ ns) = named_plain ns
