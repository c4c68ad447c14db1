use Rattle.std.proofs.Common.{subst}
use Rattle.joined_deals.specs.AgentCalls.{unjoined, tick_in}
use Rattle.agent_core.specs.AgentDoes.{Gives, IsEnvelopeIf}
use Rattle.joined_deals.proofs.Calling.{calls_step}
use Rattle.agent_core.specs.AgentSeen.{AgentSeen, seen_in}
use Rattle.agent_core.proofs.Doing.{step_of}
use Rattle.agent_core.proofs.agent.Agent.tick.Goals as goal

pub returns-clause-gives : goal.returns-clause-gives
returns-clause-gives g c =
    let deal = c.args.deal.now in
    let now = seen_in c.give_late.new.keeper c.give_late.new.state in
    let after = g.K.Keeper.known c.give_late.new.keeper in
    subst (λ (s : AgentSeen g.row.K.Denot). Gives (unjoined s.agent deal) (IsEnvelopeIf s (tick_in s.agent deal c.args.now)) (tick_in s.agent deal c.args.now) s now c.give_late.result (g.K.Keeper.known s.keeper) after) c.self.view_is c.give_late.ensures.gives

pub returns-clause-step : goal.returns-clause-step
returns-clause-step g c =
    let now = seen_in c.give_late.new.keeper c.give_late.new.state in
    step_of _ _ _ _ c.args.self.now now c.give_late.result (g.K.Keeper.known c.args.self.now.keeper) (g.K.Keeper.known c.give_late.new.keeper) (returns-clause-gives g c) (λ none. calls_step.ticks c.args.self.now.agent c.args.deal.now c.args.now none)
