-- Reading a script: the first line that breaks a rule, or what the script declares and what happens
-- in it.
use Rattle.std.specs.Prelude.{ℕ, ◌+◌, Bool, true, false, ◌&&◌, ◌||◌, if◌then◌else◌, List, [], ◌∷◌, ◌++◌, length, Option, Some, None, Result, Ok, Err}
use Rattle.std.specs.List.{list_any, flat_map}
use Rattle.std.specs.Option.{option_to_list}
use Rattle.line_text.specs.Lines.{Line}
use Rattle.script_lines.specs.LineRules.{passes_over}
use Rattle.script_lines.specs.Refusals.{Refused, reading_by}
use Rattle.plain_script.specs.Said.{statement_of}
use Rattle.plain_script.specs.Rules.{place_after, declarations_of, said_rule, is_begin}
use Rattle.plain_script.specs.declared.declaration.Declaration.{Declaration}
use Rattle.plain_script.specs.declared.numbered.Numbered.{Numbered}
use Rattle.plain_script.specs.declared.statement.Statement.{Statement}
use Rattle.plain_script.specs.declared.statement.Statement.TheVariants.{Plain, House, Declare, Begin, Happen}
use Rattle.script_lines.specs.declared.rule.ScriptRule.{ScriptRule}
use Rattle.script_lines.specs.declared.rule.ScriptRule.TheVariants.{BadLine}

-- what a line says; a line without its LF says nothing
abbrev pub said_by : Line → Option Statement
said_by line = if line.ended then statement_of line.text else None

-- the statements of a line, one or none
abbrev pub statements_by : Line → List Statement
statements_by line = if passes_over line then [] else option_to_list (said_by line)

abbrev pub statements_of : List Line → List Statement
statements_of lines = flat_map statements_by lines

-- the rule that a line breaks after the lines before it
abbrev pub line_rule : List Line → Line → Option ScriptRule
line_rule before line =
    if passes_over line then None
    else said_rule (length before) (place_after (statements_of before))
    (declarations_of (statements_of before)) (said_by line)

-- what happens, each with the number of its line
abbrev pub events_at : ℕ → Statement → List Numbered
events_at line Plain = []
events_at line House = []
events_at line (Declare d) = []
events_at line Begin = []
events_at line (Happen e) = record { line = line; event = e } ∷ []

abbrev pub events_from : ℕ → List Line → List Numbered
events_from before [] = []
events_from before (line ∷ rest) =
    flat_map (events_at (before + 1)) (statements_by line) ++ events_from (before + 1) rest

-- a script that was read
pub record ScriptTold : Type 0 where
  pub declarations : List Declaration
  pub events : List Numbered

abbrev pub says_nothing : List Statement → Bool
says_nothing [] = true
says_nothing (s ∷ ss) = false

-- where no line breaks a rule: a script that says something has the line `begin`
abbrev pub reading_whole : List Line → Result ScriptTold Refused
reading_whole lines =
    if says_nothing (statements_of lines) || list_any is_begin (statements_of lines)
    then Ok (record {
      declarations = declarations_of (statements_of lines);
      events = events_from 0 lines;
    })
    else Err (record { line = length lines + 1; rule = BadLine })

abbrev pub reading_of : List ℕ → Result ScriptTold Refused
reading_of script = reading_by line_rule reading_whole script
