-- The texts of acts and deals are bytes.
use Rattle.std.proofs.Common.{◌≡◌, ℕ, zero, suc, ◌^◌, ◌<◌, Bool, true, ◌&&◌, ◌||◌, IsTrue, leb, ltb, eqb, List, [], ◌∷◌, ◌++◌, map, length, get_or, arith, refl, ⊎_elim}
use Rattle.std.specs.Prelude.{codes, slice_index}
use Rattle.std.specs.Int.{w16, w32, w64, to_be_bytes, byte_at, bytes_high_first}
use Rattle.std.specs.Fmt.{decimal}
use Rattle.std.specs.List.{AllByRecursion, list_all}
use Rattle.std.proofs.lemmas.Bool.{and_parts, or_cases, leb-true, eqb-true, ltb-true}
use Rattle.std.proofs.lemmas.Fmt.{IsAscii-decimal}
use Rattle.sha2.specs.Sha256.{sha256, digest_bytes, final_hash, initial_hash_256}
use Rattle.dh_base.specs.Fields.{AreBytes, name_field}
use Rattle.dh_base.specs.Formats.{text_field}
use Rattle.dh_base.specs.Names.{is_letter, is_digit, is_name_byte, begins_with_letter, is_name}
use Rattle.dh_base.specs.Spelled.{hex_text}
use Rattle.line_text.specs.IdWords.{IsId, is_hex_digit}
use Rattle.line_text.specs.Lines.{spelled_lines}
use Rattle.line_text.specs.Words.{spelled_words}
use Rattle.line_text.proofs.HexAgain.{digits_all}
use Rattle.deal_core.specs.Deals.{DealTold}
use Rattle.deal_core.specs.DealText.{party_name, party_words, step_words, deal_words, deal_text, IsSpellable}
use Rattle.deal_core.specs.declared.party.Party.{Party}
use Rattle.deal_core.specs.declared.step.Step.{Step}

abbrev pub AllBytes : List ℕ → Type 0
AllBytes bytes = AllByRecursion (λ (byte : ℕ). byte < 256) bytes

pub are_bytes : (bytes : List ℕ) → AllBytes bytes → AreBytes bytes
are_bytes [] all i = omega arith
are_bytes (b ∷ bytes) all zero = all.0
are_bytes (b ∷ bytes) all (suc i) = are_bytes bytes all.1 i

pub both : (xs ys : List ℕ) → AllBytes xs → AllBytes ys → AllBytes (xs ++ ys)
both [] ys one two = two
both (x ∷ xs) ys one two = (one.0, both xs ys one.1 two)

at_places : (bytes : List ℕ) → ((i : ℕ) → get_or bytes i 0 < 256) → AllBytes bytes
at_places [] each = tt
at_places (b ∷ bytes) each = (each 0, at_places bytes (λ i. each (suc i)))

tested : (test : ℕ → Bool) → ((c : ℕ) → test c ≡ true → c < 256) → (bytes : List ℕ) → list_all test bytes ≡ true → AllBytes bytes
tested test small [] all = tt
tested test small (b ∷ bytes) all =
    let parts = and_parts (test b) (list_all test bytes) all in
    (small b parts.0, tested test small bytes parts.1)

-- a text of the program's own
pub own_text : (bytes : List ℕ) → list_all (λ c. ltb c 256) bytes ≡ true → AllBytes bytes
own_text bytes all = tested (λ c. ltb c 256) (λ c e. ltb-true c 256 e) bytes all

-- ---- fields

byte_small : (i n : ℕ) → byte_at i n < 256
byte_small zero n = omega arith
byte_small (suc i) n = omega arith

high_first : (k n : ℕ) → AllBytes (bytes_high_first k n)
high_first zero n = tt
high_first (suc k) n = (byte_small k n, high_first k n)

pub wide2 : (n : ℕ) → AllBytes (to_be_bytes w16 n)
wide2 n = high_first 2 n

pub wide4 : (n : ℕ) → AllBytes (to_be_bytes w32 n)
wide4 n = high_first 4 n

pub wide8 : (n : ℕ) → AllBytes (to_be_bytes w64 n)
wide8 n = high_first 8 n

name_byte_small : (c : ℕ) → is_name_byte c ≡ true → c < 256
name_byte_small c e =
    ⊎_elim
    (λ (h : is_letter c ≡ true). omega (arith, leb-true c 122 (and_parts (leb 97 c) (leb c 122) h).1))
    (λ (h : (is_digit c || eqb c 45) ≡ true).
    ⊎_elim
    (λ (d : is_digit c ≡ true). omega (arith, leb-true c 57 (and_parts (leb 48 c) (leb c 57) d).1))
    (λ (d : eqb c 45 ≡ true). omega (arith, eqb-true c 45 d))
    (or_cases (is_digit c) (eqb c 45) h))
    (or_cases (is_letter c) (is_digit c || eqb c 45) e)

pub name_bytes : (name : List ℕ) → IsTrue (is_name name) → AllBytes name
name_bytes name h =
    let rest = (and_parts (begins_with_letter name) _ h).1 in
    tested is_name_byte name_byte_small name (and_parts (list_all is_name_byte name) _ rest).0

pub name_field_bytes : (name : List ℕ) → IsTrue (is_name name) → AllBytes (name_field name)
name_field_bytes name h =
    let rest = (and_parts (begins_with_letter name) _ h).1 in
    let short = leb-true (length name) 16 (and_parts (list_all is_name_byte name) (leb (length name) 16) rest).1 in
    (omega (arith, short), name_bytes name h)

hex_digit_small : (c : ℕ) → is_hex_digit c ≡ true → c < 256
hex_digit_small c e =
    ⊎_elim
    (λ (d : is_digit c ≡ true). omega (arith, leb-true c 57 (and_parts (leb 48 c) (leb c 57) d).1))
    (λ (d : (leb 97 c && leb c 102) ≡ true). omega (arith, leb-true c 102 (and_parts (leb 97 c) (leb c 102) d).1))
    (or_cases (is_digit c) (leb 97 c && leb c 102) e)

hex_bytes : (bytes : List ℕ) → AllBytes bytes → AllBytes (hex_text bytes)
hex_bytes bytes all = tested is_hex_digit hex_digit_small (hex_text bytes) (digits_all bytes all)

decimal_bytes : (n : ℕ) → n < 2 ^ 64 → AllBytes (decimal n)
decimal_bytes n small = at_places (decimal n) (λ i. let low = IsAscii-decimal n small i in omega (arith, low))

digest_all : (h : List ℕ) (n : ℕ) → AllBytes (digest_bytes h n)
unfolding digest_bytes
digest_all h zero = tt
digest_all h (suc n) = both (digest_bytes h n) (to_be_bytes w32 (slice_index h n)) (digest_all h n) (wide4 (slice_index h n))

pub hash_bytes : (text : List ℕ) → AllBytes (sha256 text)
unfolding sha256
hash_bytes text = digest_all (final_hash initial_hash_256 text) 8

pub text_field_bytes : (text : List ℕ) → AllBytes text → AllBytes (text_field text)
text_field_bytes text all = both (to_be_bytes w32 (length text)) text (wide4 (length text)) all

-- ---- the text of a deal

-- the words of a line, and of lines
abbrev AreWords : List (List ℕ) → Type 0
AreWords words = AllByRecursion AllBytes words

abbrev AreLines : List (List (List ℕ)) → Type 0
AreLines lines = AllByRecursion AreWords lines

line_bytes : (words : List (List ℕ)) → AreWords words → AllBytes (spelled_words words)
line_bytes [] all = tt
line_bytes (word ∷ []) all = all.0
line_bytes (word ∷ next ∷ words) all = both word (32 ∷ spelled_words (next ∷ words)) all.0 (omega arith, line_bytes (next ∷ words) all.1)

lines_bytes : (lines : List (List (List ℕ))) → AreLines lines → AllBytes (spelled_lines (map spelled_words lines))
lines_bytes [] all = tt
lines_bytes (words ∷ lines) all =
    both (spelled_words words ++ 10 ∷ []) (spelled_lines (map spelled_words lines))
    (both (spelled_words words) (10 ∷ []) (line_bytes words all.0) (omega arith, tt)) (lines_bytes lines all.1)

abbrev IsSpellableParty : Party → Type 0
IsSpellableParty party = IsTrue (is_name party.name) × IsId party.account

party_name_bytes : (parties : List Party) (index : ℕ) → AllByRecursion IsSpellableParty parties → AllBytes (party_name parties index)
party_name_bytes [] index all = tt
party_name_bytes (party ∷ parties) zero all = name_bytes party.name all.0.0
party_name_bytes (party ∷ parties) (suc index) all = party_name_bytes parties index all.1

-- names, and an amount that has decimal digits
abbrev pub IsSpellableStep : Step → Type 0
IsSpellableStep step = IsTrue (is_name step.ledger) × IsTrue (is_name step.asset) × (step.amount < 2 ^ 63)

steps_lines : (parties : List Party) (steps : List Step) → AllByRecursion IsSpellableParty parties → AllByRecursion IsSpellableStep steps → AreLines (map (step_words parties) steps)
steps_lines parties [] all good = tt
steps_lines parties (step ∷ steps) all good =
    let digits : AllBytes (decimal step.amount) = decimal_bytes step.amount (omega (arith, good.0.2)) in (
      (own_text (codes "step") refl, (party_name_bytes parties step.from all, (party_name_bytes parties step.to all, (name_bytes step.ledger good.0.0, (name_bytes step.asset good.0.1, (digits, tt)))))),
      steps_lines parties steps all good.1,
    )

parties_lines : (parties : List Party) (lines : List (List (List ℕ))) → AllByRecursion IsSpellableParty parties → AreLines lines → AreLines (map party_words parties ++ lines)
parties_lines [] lines all good = good
parties_lines (party ∷ parties) lines all good =
    ((own_text (codes "party") refl, (name_bytes party.name all.0.0, (hex_bytes party.account.0 all.0.1.1, tt))), parties_lines parties lines all.1 good)

pub deal_bytes : (deal : DealTold) → IsSpellable deal → AllByRecursion IsSpellableStep deal.steps → AllBytes (deal_text deal)
deal_bytes deal s good =
    lines_bytes (deal_words deal) (
      (own_text (codes "deal") refl, (name_bytes deal.name s.name, tt)),
      (
        (own_text (codes "house") refl, (hex_bytes deal.house.0 s.house.1, tt)),
        parties_lines deal.parties (map (step_words deal.parties) deal.steps) s.parties (steps_lines deal.parties deal.steps s.parties good),
      ),
    )
