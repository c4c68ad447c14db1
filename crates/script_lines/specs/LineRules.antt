-- Rules that every script keeps, whatever its lines say.
use Rattle.std.specs.Prelude.{ℕ, Bool, ◌&&◌, nat_le, if◌then◌else◌, Option, Some, None}
use Rattle.line_text.specs.Faults.{broken_if}
use Rattle.line_text.specs.Lines.{Line, is_passed_over}
use Rattle.script_lines.specs.RuleNames.{rule_number}
use Rattle.script_lines.specs.declared.rule.ScriptRule.{ScriptRule}
use Rattle.script_lines.specs.declared.rule.ScriptRule.TheVariants.{TooMany}

-- the greatest number of bytes of a script
abbrev pub most_bytes : ℕ
most_bytes = 2097152

-- the most lines that may say something
abbrev pub most_lines : ℕ
most_lines = 20000

-- A line that has its LF and is empty or a comment is passed over.
abbrev pub passes_over : Line → Bool
passes_over line = line.ended && is_passed_over line.text

-- of two rules that a line may break, that of the lesser number
abbrev pub lesser_rule : Option ScriptRule → Option ScriptRule → Option ScriptRule
lesser_rule None other = other
lesser_rule (Some rule) None = Some rule
lesser_rule (Some rule) (Some other) =
    if nat_le (rule_number rule) (rule_number other) then Some rule else Some other

-- the limit of lines, where so many lines stand before one that says something
abbrev pub limit_rule : ℕ → Option ScriptRule
limit_rule before = broken_if (nat_le most_lines before) TooMany None

-- the rule that a line breaks which breaks this one by what it says: beyond the 20,000th line it
-- breaks the limit of lines too
abbrev pub within_limit : ℕ → Option ScriptRule → Option ScriptRule
within_limit before rule = lesser_rule rule (limit_rule before)
