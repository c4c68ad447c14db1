use Rattle.std.proofs.Common.{sym, ◌∙◌}
use Rattle.joined_deals.proofs.Looping.{listed_here, listed_on}
use Rattle.joined_deals.proofs.heard.listed_of.Goals as goal

pub returns-then-eq : goal.returns-then-eq
returns-then-eq c =
    listed_here c.args.rows.now c.args.asset.now c.loop-row.row-index c.row-item.result c.loop-row-test.true c.row-item.is (sym c.eq.ensures ∙ c.if-eq.true) c.loop-row.invariant

pub loop-row-preserved : goal.loop-row-preserved
loop-row-preserved c =
    listed_on c.args.rows.now c.args.asset.now c.loop-row.row-index c.row-item.result c.loop-row-test.true c.row-item.is (sym c.eq.ensures ∙ c.if-eq.false) c.loop-row.invariant
