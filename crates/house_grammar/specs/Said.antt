-- What a line of a house script says, read from its words.
use Rattle.std.specs.Prelude.{ℕ, if◌then◌else◌, List, [], ◌∷◌, Option, Some, None, option_map, codes}
use Rattle.std.specs.Str.{bytes_eq}
use Rattle.line_text.specs.Reading.{ended}
use Rattle.line_text.specs.Words.{words_of}
use Rattle.house_words.specs.Keywords.{declaration_keyword, building_keyword, event_keyword}
use Rattle.house_grammar.specs.SaidDeclarations.{declaration_after}
use Rattle.house_grammar.specs.SaidBuildings.{building_after}
use Rattle.house_grammar.specs.SaidEvents.{event_after}
use Rattle.house_grammar.specs.declared.house_line.HouseLine.{HouseLine}
use Rattle.house_grammar.specs.declared.house_line.HouseLine.TheVariants.{House, Declare, Begin, Build, Happen}

-- a line of one word
abbrev pub bare_line : List ℕ → List (List ℕ) → Option HouseLine
bare_line word ws =
    if bytes_eq word (codes "house") then ended ws House
    else if bytes_eq word (codes "begin") then ended ws Begin
    else None

-- what is read by the keyword, where the word is one
abbrev pub by_keyword : {K A : Type 0} → Option K → (K → Option A) → Option A → Option A
by_keyword (Some keyword) read other = read keyword
by_keyword None read other = other

unfoldable pub line_of_words : List (List ℕ) → Option HouseLine
line_of_words [] = None
line_of_words (word ∷ ws) =
    by_keyword (declaration_keyword word) (λ k. option_map Declare (declaration_after k ws))
    (by_keyword (building_keyword word) (λ k. option_map Build (building_after k ws))
    (by_keyword (event_keyword word) (λ k. option_map Happen (event_after k ws))
    (bare_line word ws)))

-- what the line says, or none where it has no line's form
abbrev pub line_said : List ℕ → Option HouseLine
line_said line = line_of_words (words_of line)
