use Rattle.std.proofs.Common.{subst}
use Rattle.agent_core.specs.AgentSeen.{AgentSeen, seen_in}
use Rattle.agent_core.specs.AgentDoes.{JoinsOrNot}
use Rattle.agent_core.proofs.Calls.{join_step}
use Rattle.agent_core.proofs.agent.Agent.join.Goals as goal

pub returns-clause-joins : goal.returns-clause-joins
returns-clause-joins g c =
    let now = seen_in c.join_deal.new.keeper c.join_deal.new.state in
    subst (λ (s : AgentSeen g.row.K.Denot). JoinsOrNot c.args.text.now c.args.terms.now s now c.join_deal.result (g.K.Keeper.known s.keeper) (g.K.Keeper.known c.join_deal.new.keeper)) c.self.view_is c.join_deal.ensures.joins

pub returns-clause-step : goal.returns-clause-step
returns-clause-step g c =
    join_step c.args.text.now c.args.terms.now c.args.self.now (seen_in c.join_deal.new.keeper c.join_deal.new.state) c.join_deal.result (g.K.Keeper.known c.args.self.now.keeper) (g.K.Keeper.known c.join_deal.new.keeper) (returns-clause-joins g c)
