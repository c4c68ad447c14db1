-- The line that a script is refused for: the first that breaks a rule behind those before it.
use Rattle.std.specs.Prelude.{ℕ, ◌≡◌, ◌+◌, nat_lt, if◌then◌else◌, List, [], ◌∷◌, ◌++◌, length, Option, Some, None, Result, Ok, Err}
use Rattle.line_text.specs.Lines.{Line, lines_of}
use Rattle.script_lines.specs.LineRules.{most_bytes}
use Rattle.script_lines.specs.declared.halt.ScriptHalt.{ScriptHalt}
use Rattle.script_lines.specs.declared.halt.ScriptHalt.TheVariants.{NoMemory, Refused as RefusedAt}
use Rattle.script_lines.specs.declared.rule.ScriptRule.{ScriptRule}
use Rattle.script_lines.specs.declared.rule.ScriptRule.TheVariants.{TooLarge}

-- The line that a script is refused for, and the rule that it breaks. Lines count from 1; line 0 is
-- the script as a whole.
pub record Refused : Type 0 where
  pub line : ℕ
  pub rule : ScriptRule

-- the rule that a line breaks behind the lines before it, in a kind of script
abbrev pub LineRule : Type 0
LineRule = List Line → Line → Option ScriptRule

-- at this line, or what comes later
abbrev pub at_line : ℕ → Option ScriptRule → Option Refused → Option Refused
at_line number None later = later
at_line number (Some rule) later = Some (record { line = number; rule = rule })

-- the first of the lines `rest` that breaks a rule, where they stand behind the lines `before`
abbrev pub first_refused : LineRule → List Line → List Line → Option Refused
first_refused line_rule before [] = None
first_refused line_rule before (line ∷ rest) =
    at_line (length before + 1) (line_rule before line)
    (first_refused line_rule (before ++ line ∷ []) rest)

-- what a script comes to, where none of its lines is refused
abbrev pub unless_refused : {A : Type 0} → Option Refused → Result A Refused → Result A Refused
unless_refused (Some refused) whole = Err refused
unless_refused None whole = whole

-- Reading a script: it isn't too large, and none of its lines breaks a rule. Then it is what its
-- lines come to.
abbrev pub reading_by : {A : Type 0} → LineRule → (List Line → Result A Refused) → List ℕ
    → Result A Refused
reading_by line_rule whole script =
    if nat_lt most_bytes (length script) then Err (record { line = 0; rule = TooLarge })
    else
    unless_refused (first_refused line_rule [] (lines_of script)) (whole (lines_of script))

-- the halt is this refusal, unless memory ran out
abbrev pub Halts : {Y : Type 0} → ScriptHalt → Result Y Refused → Type 0
Halts NoMemory read = Unit {0}
Halts (RefusedAt line rule) read = read ≡ Err (record { line = line; rule = rule })
