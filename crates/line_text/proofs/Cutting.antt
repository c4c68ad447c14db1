-- The first line and the first word of bytes, by the first place of the byte that ends them.
use Rattle.std.proofs.Common.{◌≡◌, ℕ, suc, ◌+◌, ◌-◌, ◌<◌, ◌≤◌, Bool, true, false, not, eqb, List, [], ◌∷◌, length, take, drop, refl, sym, ap, ◌∙◌, arith, inl, inr, Option, Some, None}
use Rattle.std.specs.List.{position_or_len, slice_split, onto_first}
use Rattle.std.proofs.lemmas.Bool.{cases_Bool, cond_both}
use Rattle.std.proofs.lemmas.List.{take_rest, drop-drop}
use Rattle.std.specs.Borrow.{Bor}
use Rattle.std.specs.Option.{is_some}
use Rattle.line_text.specs.Lines.{ended_line, lines_of}
use Rattle.line_text.specs.Reading.{is_done}
use Rattle.line_text.specs.Seen.{words_left}

-- the place of the first such byte
abbrev pub place : ℕ → List ℕ → ℕ
place byte bytes = position_or_len (λ c. eqb c byte) bytes

place-behind : (byte c : ℕ) (cs : List ℕ) → eqb c byte ≡ false → place byte (c ∷ cs) ≡ suc (place byte cs)
place-behind byte c cs fails = rw fails (omega arith)

pub lines_of_first : (text : List ℕ) → place 10 text < length text → lines_of text ≡ ended_line (take (place 10 text) text) ∷ lines_of (drop (suc (place 10 text)) text)
lines_of_first [] h = absurd (omega arith)
lines_of_first (c ∷ cs) h =
    elim (cases_Bool (eqb c 10)) [
      | inl ends ↦ rw ends refl
      | inr goes_on ↦
          let e = place-behind 10 c cs goes_on in
          let shorter : place 10 cs < length cs = omega (arith, e) in
          rw (e, goes_on, lines_of_first cs shorter) refl
    ]

pub lines_of_last : (text : List ℕ) → 0 < length text → length text ≤ place 10 text → lines_of text ≡ record { text = text; ended = false } ∷ []
lines_of_last [] some h = absurd (omega arith)
lines_of_last (c ∷ []) some h =
    elim (cases_Bool (eqb c 10)) [
      | inl ends ↦ let none : 1 ≤ 0 = rw ends at h in absurd (omega arith)
      | inr goes_on ↦ rw goes_on refl
    ]
lines_of_last (c ∷ d ∷ cs) some h =
    elim (cases_Bool (eqb c 10)) [
      | inl ends ↦ let none : length (c ∷ d ∷ cs) ≤ 0 = rw ends at h in absurd (omega arith)
      | inr goes_on ↦
          let e = place-behind 10 c (d ∷ cs) goes_on in
          let longer : length (d ∷ cs) ≤ place 10 (d ∷ cs) = omega (arith, e) in
          rw (goes_on, lines_of_last (d ∷ cs) (omega arith) longer) refl
    ]

pub words_of_first : (byte : ℕ) (line : List ℕ) → place byte line < length line → slice_split (λ c. eqb c byte) line ≡ take (place byte line) line ∷ slice_split (λ c. eqb c byte) (drop (suc (place byte line)) line)
words_of_first byte [] h = absurd (omega arith)
words_of_first byte (c ∷ cs) h =
    elim (cases_Bool (eqb c byte)) [
      | inl ends ↦ rw ends refl
      | inr goes_on ↦
          let e = place-behind byte c cs goes_on in
          let shorter : place byte cs < length cs = omega (arith, e) in
          rw (e, goes_on, words_of_first byte cs shorter) refl
    ]

pub words_of_last : (byte : ℕ) (line : List ℕ) → length line ≤ place byte line → slice_split (λ c. eqb c byte) line ≡ line ∷ []
words_of_last byte [] h = refl
words_of_last byte (c ∷ cs) h =
    elim (cases_Bool (eqb c byte)) [
      | inl ends ↦ let none : length (c ∷ cs) ≤ 0 = rw ends at h in absurd (omega arith)
      | inr goes_on ↦
          let e = place-behind byte c cs goes_on in
          let longer : length cs ≤ place byte cs = omega (arith, e) in
          rw (goes_on, words_of_last byte cs longer) refl
    ]

-- what is behind the byte at a place, as a slice pattern gives it
pub behind-byte : (bytes : List ℕ) (k : ℕ) → take (length (drop k bytes) - 1) (drop 1 (drop k bytes)) ≡ drop (suc k) bytes
behind-byte bytes k =
    let next : k + 1 ≡ suc k = omega arith in
    take_rest (drop k bytes) 1 ∙ drop-drop 1 k bytes ∙ ap (λ (n : ℕ). drop n bytes) next

is_done-onto_first : (c : ℕ) (words : List (List ℕ)) → is_done (onto_first c words) ≡ false
is_done-onto_first c [] = refl
is_done-onto_first c (word ∷ words) = refl

is_done-words_of : (byte : ℕ) (line : List ℕ) → is_done (slice_split (λ c. eqb c byte) line) ≡ false
is_done-words_of byte [] = refl
is_done-words_of byte (c ∷ cs) =
    cond_both (eqb c byte) ([] ∷ slice_split (λ c. eqb c byte) cs) (onto_first c (slice_split (λ c. eqb c byte) cs)) (λ words. is_done words ≡ false) (λ ends. refl) (λ goes_on. is_done-onto_first c (slice_split (λ c. eqb c byte) cs))

-- a line has a word, so nothing is left only where no line is
pub is_done-words_left : (rest : Option (Bor (List ℕ))) (done : Bool) → is_some rest ≡ not done → done ≡ is_done (words_left rest)
is_done-words_left None true e = refl
is_done-words_left None false e = absurd cc
is_done-words_left (Some line) true e = absurd cc
is_done-words_left (Some line) false e = sym (is_done-words_of 32 line.now)
