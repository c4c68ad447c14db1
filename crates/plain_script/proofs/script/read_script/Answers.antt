use Rattle.std.proofs.Common.{◌≡◌, None, sym, ◌∙◌, subst, arith, Option}
use Rattle.std.specs.Prelude.{IfNone}
use Rattle.line_text.specs.Lines.{lines_of}
use Rattle.line_text.specs.Seen.{line_of}
use Rattle.plain_script.specs.Fronts.{rule_behind, front_after}
use Rattle.script_lines.specs.declared.rule.ScriptRule.{ScriptRule}
use Rattle.plain_script.proofs.Fronting.{goes_on, number_small, few_events}
use Rattle.plain_script.proofs.script.read_script.Goals as goal

pub read_line-requires : goal.read_line-requires
read_line-requires c = omega (arith, number_small c.args.script.now c.loop-line.lines c.loop-line.reader c.loop-line.invariant)

pub whole-requires-clause-small : goal.whole-requires-clause-small
whole-requires-clause-small c = omega (arith, number_small c.args.script.now c.loop-line.lines c.loop-line.reader c.loop-line.invariant)

pub loop-line-preserved : goal.loop-line-preserved
loop-line-preserved c =
    let none : c.in_ok-rule.field-0 ≡ None = c.in_default-2.is in
    let rule : rule_behind c.loop-line.reader (line_of c.in-Some.line) ≡ None = sym c.in_ok-rule.ensures.rule ∙ none in
    goes_on (lines_of c.args.script.now) c.loop-line.lines c.loop-line.reader (line_of c.in-Some.line) c.next_line.new.self c.read_line.new.self c.loop-line.invariant c.in-Some.ensures.line rule
    (subst (λ (o : Option ScriptRule). IfNone o (c.read_line.new.self ≡ front_after c.loop-line.reader (line_of c.in-Some.line))) none c.in_ok-rule.ensures.after)

pub whole-requires-clause-few : goal.whole-requires-clause-few
whole-requires-clause-few c = few_events (lines_of c.args.script.now) c.loop-line.lines c.loop-line.reader c.loop-line.invariant
