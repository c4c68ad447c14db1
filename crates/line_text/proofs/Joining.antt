-- Lines and words are read as they were spelled, and spelled as they were read.
use Rattle.std.proofs.Common.{◌≡◌, ℕ, suc, ◌<◌, ◌≤◌, ◌≢◌, Bool, true, false, not, ◌||◌, eqb, ltb, List, [], ◌∷◌, ◌++◌, length, map, refl, ap, ◌∙◌, arith, append_assoc, IsTrue}
use Rattle.std.specs.List.{onto_first, AllByRecursion}
use Rattle.std.proofs.lemmas.Bool.{cond_both, and_parts, and_from, or_right, eqb-true, not-true, not_from_false, lt-ltb, ltb-true}
use Rattle.std.proofs.lemmas.List.{append-nil}
use Rattle.std.proofs.lemmas.List.Splits.{join_with_byte-slice_split}
use Rattle.line_text.specs.Bytes.{lacks}
use Rattle.line_text.specs.Lines.{AreLines, Line, ended_line, onto_first_line, lines_of, line_bytes, joined_lines, spelled_lines}
use Rattle.line_text.specs.Words.{words_of, spelled_words}

-- a line for each byte at most

length-onto_first_line : (c : ℕ) (lines : List Line) → length (onto_first_line c lines) ≤ suc (length lines)
length-onto_first_line c [] = omega arith
length-onto_first_line c (line ∷ lines) = omega arith

pub length-lines_of : (text : List ℕ) → length (lines_of text) ≤ length text
length-lines_of [] = omega arith
length-lines_of (c ∷ cs) =
    cond_both (eqb c 10) (ended_line [] ∷ lines_of cs) (onto_first_line c (lines_of cs)) (λ (lines : List Line). length lines ≤ suc (length cs)) (λ ends. omega (arith, length-lines_of cs)) (λ goes_on. omega (arith, length-onto_first_line c (lines_of cs), length-lines_of cs))

-- the lines of a text, joined

joined-onto_first_line : (c : ℕ) (lines : List Line) → joined_lines (onto_first_line c lines) ≡ c ∷ joined_lines lines
joined-onto_first_line c [] = refl
joined-onto_first_line c (line ∷ lines) = refl

pub joined-lines_of : (text : List ℕ) → joined_lines (lines_of text) ≡ text
joined-lines_of [] = refl
joined-lines_of (c ∷ cs) =
    cond_both (eqb c 10) (ended_line [] ∷ lines_of cs) (onto_first_line c (lines_of cs)) (λ (lines : List Line). joined_lines lines ≡ c ∷ cs)
    (λ ends. rw (joined-lines_of cs, eqb-true c 10 ends) refl)
    (λ goes_on. joined-onto_first_line c (lines_of cs) ∙ ap (λ (bytes : List ℕ). c ∷ bytes) (joined-lines_of cs))

-- the lines of spelled lines

lacks-parts : (byte c : ℕ) (cs : List ℕ) → IsTrue (lacks byte (c ∷ cs)) → (eqb c byte ≡ false) × IsTrue (lacks byte cs)
lacks-parts byte c cs h =
    let parts = and_parts (not (eqb c byte)) (lacks byte cs) h in
    (not-true (eqb c byte) parts.0, parts.1)

lacks-more : (byte c : ℕ) (cs : List ℕ) → eqb c byte ≡ false → IsTrue (lacks byte cs) → IsTrue (lacks byte (c ∷ cs))
lacks-more byte c cs other h = and_from (not (eqb c byte)) (lacks byte cs) (not_from_false (eqb c byte) other) h

lines_of-line : (line rest : List ℕ) → IsTrue (lacks 10 line) → lines_of (line ++ 10 ∷ rest) ≡ ended_line line ∷ lines_of rest
lines_of-line [] rest h = refl
lines_of-line (c ∷ cs) rest h =
    let parts = lacks-parts 10 c cs h in
    rw (parts.0, lines_of-line cs rest parts.1) refl

pub lines_of-spelled : (lines : List (List ℕ)) → AllByRecursion (λ line. IsTrue (lacks 10 line)) lines → lines_of (spelled_lines lines) ≡ map ended_line lines
lines_of-spelled [] h = refl
lines_of-spelled (line ∷ lines) h =
    ap lines_of (append_assoc line (10 ∷ []) (spelled_lines lines)) ∙ lines_of-line line (spelled_lines lines) h.0 ∙ ap (λ (more : List Line). ended_line line ∷ more) (lines_of-spelled lines h.1)

-- the lines of a text are lines

AreLines-ended : (lines : List Line) → AreLines lines → AreLines (ended_line [] ∷ lines)
AreLines-ended [] h = (refl, refl)
AreLines-ended (line ∷ lines) h = (refl, refl, h)

AreLines-onto_first_line : (c : ℕ) (lines : List Line) → eqb c 10 ≡ false → AreLines lines → AreLines (onto_first_line c lines)
AreLines-onto_first_line c [] goes_on h = (lacks-more 10 c [] goes_on refl, refl)
AreLines-onto_first_line c (line ∷ []) goes_on h =
    (lacks-more 10 c line.text goes_on h.0, or_right line.ended (ltb 0 (suc (length line.text))) (lt-ltb 0 (suc (length line.text)) (omega arith)))
AreLines-onto_first_line c (line ∷ next ∷ lines) goes_on h = (lacks-more 10 c line.text goes_on h.0, h.1, h.2)

pub AreLines-lines_of : (text : List ℕ) → AreLines (lines_of text)
AreLines-lines_of [] = tt
AreLines-lines_of (c ∷ cs) =
    cond_both (eqb c 10) (ended_line [] ∷ lines_of cs) (onto_first_line c (lines_of cs)) AreLines
    (λ ends. AreLines-ended (lines_of cs) (AreLines-lines_of cs))
    (λ goes_on. AreLines-onto_first_line c (lines_of cs) goes_on (AreLines-lines_of cs))

-- lines are the lines of their text

lines_of-rest : (text : List ℕ) → IsTrue (lacks 10 text) → 0 < length text → lines_of text ≡ record { text = text; ended = false } ∷ []
lines_of-rest [] h some = absurd (omega arith)
lines_of-rest (c ∷ []) h some =
    let parts = lacks-parts 10 c [] h in
    rw parts.0 refl
lines_of-rest (c ∷ d ∷ cs) h some =
    let parts = lacks-parts 10 c (d ∷ cs) h in
    rw (parts.0, lines_of-rest (d ∷ cs) parts.1 (omega arith)) refl

lines_of-single : (text : List ℕ) (ended : Bool) → IsTrue (lacks 10 text) → IsTrue (ended || ltb 0 (length text)) → lines_of (joined_lines (record { text = text; ended = ended } ∷ [])) ≡ record { text = text; ended = ended } ∷ []
lines_of-single text true h some = ap lines_of (append-nil (text ++ 10 ∷ [])) ∙ lines_of-line text [] h
lines_of-single text false h some =
    ap lines_of (append-nil (text ++ []) ∙ append-nil text) ∙ lines_of-rest text h (ltb-true 0 (length text) some)

lines_of-more : (text : List ℕ) (ended : Bool) (rest : List ℕ) → IsTrue (lacks 10 text) → IsTrue ended → lines_of (line_bytes (record { text = text; ended = ended }) ++ rest) ≡ record { text = text; ended = ended } ∷ lines_of rest
lines_of-more text true rest h ended = ap lines_of (append_assoc text (10 ∷ []) rest) ∙ lines_of-line text rest h
lines_of-more text false rest h ended = absurd cc

pub lines_of-joined : (lines : List Line) → AreLines lines → lines_of (joined_lines lines) ≡ lines
lines_of-joined [] h = refl
lines_of-joined (line ∷ []) h = lines_of-single line.text line.ended h.0 h.1
lines_of-joined (line ∷ next ∷ lines) h =
    lines_of-more line.text line.ended (joined_lines (next ∷ lines)) h.0 h.1 ∙ ap (λ (more : List Line). line ∷ more) (lines_of-joined (next ∷ lines) h.2)

-- the words of spelled words

words_of-last : (word : List ℕ) → IsTrue (lacks 32 word) → words_of word ≡ word ∷ []
words_of-last [] h = refl
words_of-last (c ∷ cs) h =
    let parts = lacks-parts 32 c cs h in
    rw (parts.0, words_of-last cs parts.1) refl

words_of-word : (word rest : List ℕ) → IsTrue (lacks 32 word) → words_of (word ++ 32 ∷ rest) ≡ word ∷ words_of rest
words_of-word [] rest h = refl
words_of-word (c ∷ cs) rest h =
    let parts = lacks-parts 32 c cs h in
    rw (parts.0, words_of-word cs rest parts.1) refl

pub words_of-spelled : (words : List (List ℕ)) → words ≢ [] → AllByRecursion (λ word. IsTrue (lacks 32 word)) words → words_of (spelled_words words) ≡ words
words_of-spelled [] some h = absurd (some refl)
words_of-spelled (word ∷ []) some h = words_of-last word h.0
words_of-spelled (word ∷ next ∷ words) some h =
    words_of-word word (spelled_words (next ∷ words)) h.0 ∙ ap (λ (more : List (List ℕ)). word ∷ more) (words_of-spelled (next ∷ words) (λ e. absurd cc) h.1)

pub spelled-words_of : (line : List ℕ) → spelled_words (words_of line) ≡ line
spelled-words_of line = join_with_byte-slice_split 32 line

-- the words of a line are words

onto_first-some : (c : ℕ) (words : List (List ℕ)) → onto_first c words ≢ []
onto_first-some c [] e = absurd cc
onto_first-some c (word ∷ words) e = absurd cc

pub words_of-some : (line : List ℕ) → words_of line ≢ []
words_of-some [] = λ e. absurd cc
words_of-some (c ∷ cs) =
    cond_both (eqb c 32) ([] ∷ words_of cs) (onto_first c (words_of cs)) (λ (words : List (List ℕ)). words ≢ []) (λ ends e. absurd cc) (λ goes_on. onto_first-some c (words_of cs))

AllByRecursion-onto_first : (c : ℕ) (words : List (List ℕ)) → eqb c 32 ≡ false → AllByRecursion (λ word. IsTrue (lacks 32 word)) words → AllByRecursion (λ word. IsTrue (lacks 32 word)) (onto_first c words)
AllByRecursion-onto_first c [] goes_on h = (lacks-more 32 c [] goes_on refl, tt)
AllByRecursion-onto_first c (word ∷ words) goes_on h = (lacks-more 32 c word goes_on h.0, h.1)

pub words_of-lack : (line : List ℕ) → AllByRecursion (λ word. IsTrue (lacks 32 word)) (words_of line)
words_of-lack [] = (refl, tt)
words_of-lack (c ∷ cs) =
    cond_both (eqb c 32) ([] ∷ words_of cs) (onto_first c (words_of cs)) (λ (words : List (List ℕ)). AllByRecursion (λ word. IsTrue (lacks 32 word)) words)
    (λ ends. (refl, words_of-lack cs))
    (λ goes_on. AllByRecursion-onto_first c (words_of cs) goes_on (words_of-lack cs))
