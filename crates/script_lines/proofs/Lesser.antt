-- A line keeps the rules where what it says does and it is within the limit.
use Rattle.std.proofs.Common.{◌≡◌, Bool, true, false, cond, leb, Option, Some, None, refl}
use Rattle.script_lines.specs.LineRules.{lesser_rule}
use Rattle.script_lines.specs.declared.rule.ScriptRule.{ScriptRule}

pub lesser_none : (rule other : Option ScriptRule) → lesser_rule rule other ≡ None → rule ≡ None
lesser_none None other e = refl
lesser_none (Some rule) None e = absurd cc
lesser_none (Some rule) (Some other) e = by_test (leb _ _) e
  where
    by_test : (b : Bool) → cond b (Some rule) (Some other) ≡ None → Some rule ≡ None
    by_test true f = absurd cc
    by_test false f = absurd cc
