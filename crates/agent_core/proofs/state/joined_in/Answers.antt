use Rattle.std.proofs.Common.{sym, ◌∙◌}
use Rattle.joined_deals.specs.Agents.{is_of_id}
use Rattle.clear_core.proofs.Finding.{find_here, find_on}
use Rattle.agent_core.proofs.state.joined_in.Goals as goal

pub returns-then-is_of_id : goal.returns-then-is_of_id
returns-then-is_of_id c =
    find_here (is_of_id c.args.id.now) c.args.deals.now c.loop-joined.joined-index c.joined-item.result c.loop-joined-test.true c.joined-item.is (sym c.is_of_id.ensures ∙ c.if-is_of_id.true) c.loop-joined.invariant

pub loop-joined-preserved : goal.loop-joined-preserved
loop-joined-preserved c =
    find_on (is_of_id c.args.id.now) c.args.deals.now c.loop-joined.joined-index c.joined-item.result c.loop-joined-test.true c.joined-item.is (sym c.is_of_id.ensures ∙ c.if-is_of_id.false) c.loop-joined.invariant
