-- Lines: a line feed ends each, and the last may lack it.
use Rattle.std.specs.Prelude.{ℕ, Bool, true, false, ◌||◌, ◌==◌, nat_lt, if◌then◌else◌, IsTrue, List, [], ◌∷◌, ◌++◌, length}
use Rattle.std.specs.List.{flat_map}
use Rattle.line_text.specs.Bytes.{lacks}

-- a line, and whether a line feed ends it
pub record Line : Type 0 where
  pub text : List ℕ
  pub ended : Bool

-- a line that a line feed ends
abbrev pub ended_line : List ℕ → Line
ended_line text = record { text = text; ended = true }

-- the lines of a text that begins with this byte, which ends no line, where these are the lines of
-- the rest
abbrev pub onto_first_line : ℕ → List Line → List Line
onto_first_line c [] = record { text = c ∷ []; ended = false } ∷ []
onto_first_line c (line ∷ lines) = record { text = c ∷ line.text; ended = line.ended } ∷ lines

-- the lines of a text: the empty text has none, and none stands behind the last line feed
abbrev pub lines_of : List ℕ → List Line
lines_of [] = []
lines_of (c ∷ cs) = if c == 10 then ended_line [] ∷ lines_of cs else onto_first_line c (lines_of cs)

-- the bytes of a line
abbrev pub line_bytes : Line → List ℕ
line_bytes line = line.text ++ (if line.ended then 10 ∷ [] else [])

-- the bytes of lines, one after another
abbrev pub joined_lines : List Line → List ℕ
joined_lines lines = flat_map line_bytes lines

-- a text of these lines, each ended by a line feed
abbrev pub spelled_lines : List (List ℕ) → List ℕ
spelled_lines lines = flat_map (λ line. line ++ 10 ∷ []) lines

-- What the lines of a text are: no line feed stands in them, each but the last is ended, and the
-- last is ended or isn't empty.
abbrev pub AreLines : List Line → Type 0
AreLines [] = Unit {0}
AreLines (line ∷ []) =
    IsTrue (lacks 10 line.text) × IsTrue (line.ended || nat_lt 0 (length line.text))
AreLines (line ∷ next ∷ lines) =
    IsTrue (lacks 10 line.text) × IsTrue line.ended × AreLines (next ∷ lines)

-- a line that scripts pass over: it is empty or begins with `#`
abbrev pub is_passed_over : List ℕ → Bool
is_passed_over [] = true
is_passed_over (c ∷ cs) = c == 35
