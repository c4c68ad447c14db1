use Rattle.std.proofs.Common.{subst}
use Rattle.joined_deals.specs.AgentCalls.{next_refusal, next_in}
use Rattle.agent_core.specs.AgentDoes.{Gives, IsTodo}
use Rattle.joined_deals.proofs.Calling.{calls_step}
use Rattle.agent_core.specs.AgentSeen.{AgentSeen, seen_in}
use Rattle.agent_core.proofs.Doing.{step_of}
use Rattle.agent_core.proofs.agent.Agent.next.Goals as goal

pub returns-clause-gives : goal.returns-clause-gives
returns-clause-gives g c =
    let deal = c.args.deal.now in
    let now = seen_in c.give_next.new.keeper c.give_next.new.state in
    let after = g.K.Keeper.known c.give_next.new.keeper in
    subst (λ (s : AgentSeen g.row.K.Denot). Gives (next_refusal s.agent deal) (IsTodo s deal) (next_in s.agent deal) s now c.give_next.result (g.K.Keeper.known s.keeper) after) c.self.view_is c.give_next.ensures.gives

pub returns-clause-step : goal.returns-clause-step
returns-clause-step g c =
    let now = seen_in c.give_next.new.keeper c.give_next.new.state in
    step_of _ _ _ _ c.args.self.now now c.give_next.result (g.K.Keeper.known c.args.self.now.keeper) (g.K.Keeper.known c.give_next.new.keeper) (returns-clause-gives g c) (λ none. calls_step.next c.args.self.now.agent c.args.deal.now none)
