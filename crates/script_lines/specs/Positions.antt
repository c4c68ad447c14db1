-- Which line breaks a rule, by its position.
use Rattle.std.specs.Prelude.{ℕ, ◌≡◌, ◌<◌, List, take, slice_get, Option, Some, None, option_and_then}
use Rattle.line_text.specs.Lines.{Line}
use Rattle.script_lines.specs.Refusals.{LineRule}
use Rattle.script_lines.specs.declared.rule.ScriptRule.{ScriptRule}

-- the rule that the line at a position from 0 breaks behind the lines before it; none where no line
-- stands there
abbrev pub rule_at : LineRule → List Line → ℕ → Option ScriptRule
rule_at line_rule lines k = option_and_then (line_rule (take k lines)) (slice_get lines k)

-- the line at the position breaks the rule, and no line before it breaks one
abbrev pub IsFirstBroken : LineRule → List Line → ℕ → ScriptRule → Type 0
IsFirstBroken line_rule lines k rule =
    (rule_at line_rule lines k ≡ Some rule)
    × ((j : ℕ) → j < k → rule_at line_rule lines j ≡ None)

-- no line breaks a rule
abbrev pub KeepRules : LineRule → List Line → Type 0
KeepRules line_rule lines = (k : ℕ) → rule_at line_rule lines k ≡ None
