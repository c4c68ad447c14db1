use Rattle.std.proofs.Common.{sym, ◌∙◌}
use Rattle.clear_core.specs.TermsKept.{is_under}
use Rattle.clear_core.proofs.Finding.{find_here, find_on}
use Rattle.clear_core.proofs.checking.first_under.Goals as goal

pub returns-then-is_under : goal.returns-then-is_under
returns-then-is_under c =
    find_here (is_under c.args.deal.now.steps c.args.party) c.args.gets.now c.loop-limit.limit-index c.limit-item.result c.loop-limit-test.true c.limit-item.is (sym c.is_under.ensures ∙ c.if-is_under.true) c.loop-limit.invariant

pub loop-limit-preserved : goal.loop-limit-preserved
loop-limit-preserved c =
    find_on (is_under c.args.deal.now.steps c.args.party) c.args.gets.now c.loop-limit.limit-index c.limit-item.result c.loop-limit-test.true c.limit-item.is (sym c.is_under.ensures ∙ c.if-is_under.false) c.loop-limit.invariant
