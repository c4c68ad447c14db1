use Rattle.std.proofs.Common.{sym, ◌∙◌}
use Rattle.joined_deals.specs.Heard.{is_about}
use Rattle.clear_core.proofs.Finding.{find_here, find_on}
use Rattle.joined_deals.proofs.heard.kept_of.Goals as goal

pub returns-then-is_about : goal.returns-then-is_about
returns-then-is_about c =
    find_here (is_about c.args.deal.now c.args.ledger.now) c.args.heard.now c.loop-statement.statement-index c.statement-item.result c.loop-statement-test.true c.statement-item.is (sym c.is_about.ensures ∙ c.if-is_about.true) c.loop-statement.invariant

pub loop-statement-preserved : goal.loop-statement-preserved
loop-statement-preserved c =
    find_on (is_about c.args.deal.now c.args.ledger.now) c.args.heard.now c.loop-statement.statement-index c.statement-item.result c.loop-statement-test.true c.statement-item.is (sym c.is_about.ensures ∙ c.if-is_about.false) c.loop-statement.invariant
