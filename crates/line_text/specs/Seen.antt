-- Lines and words without where they lie in memory.
use Rattle.std.specs.Prelude.{ℕ, List, [], Option, Some, None}
use Rattle.std.specs.Borrow.{Bor}
use Rattle.line_text.specs.declared.text_line.TextLine.{TextLine}
use Rattle.line_text.specs.Lines.{Line}
use Rattle.line_text.specs.Words.{words_of}

abbrev pub line_of : TextLine → Line
line_of line = record { text = line.text.now; ended = line.ended }

-- the words of what is left of a line, which is nothing behind the last word
abbrev pub words_left : Option (Bor (List ℕ)) → List (List ℕ)
words_left None = []
words_left (Some rest) = words_of rest.now
