-- Words: the pieces of a line between single spaces. A line has one at least, and a word may be
-- empty.
use Rattle.std.specs.Prelude.{ℕ, ◌==◌, List}
use Rattle.std.specs.List.{slice_split, join_with_byte}

abbrev pub words_of : List ℕ → List (List ℕ)
words_of line = slice_split (λ c. c == 32) line

-- a line of these words, with one space between each two
abbrev pub spelled_words : List (List ℕ) → List ℕ
spelled_words words = join_with_byte 32 words
