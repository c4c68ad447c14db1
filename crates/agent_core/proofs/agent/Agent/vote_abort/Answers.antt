use Rattle.std.proofs.Common.{subst}
use Rattle.dh_base.specs.declared.outcome.Outcome.TheVariants.{Abort}
use Rattle.joined_deals.specs.AgentCalls.{unjoined, vote_in}
use Rattle.agent_core.specs.AgentDoes.{Gives, IsEnvelope}
use Rattle.joined_deals.proofs.Calling.{calls_step}
use Rattle.agent_core.specs.AgentSeen.{AgentSeen, seen_in}
use Rattle.agent_core.proofs.Doing.{step_of}
use Rattle.agent_core.proofs.agent.Agent.vote_abort.Goals as goal

pub returns-clause-gives : goal.returns-clause-gives
returns-clause-gives g c =
    let deal = c.args.deal.now in
    let now = seen_in c.give_text.new.keeper c.give_text.new.state in
    let after = g.K.Keeper.known c.give_text.new.keeper in
    subst (λ (s : AgentSeen g.row.K.Denot). Gives (unjoined s.agent deal) (IsEnvelope s (vote_in s.agent deal Abort)) (vote_in s.agent deal Abort) s now c.give_text.result (g.K.Keeper.known s.keeper) after) c.self.view_is c.give_text.ensures.gives

pub returns-clause-step : goal.returns-clause-step
returns-clause-step g c =
    let now = seen_in c.give_text.new.keeper c.give_text.new.state in
    step_of _ _ _ _ c.args.self.now now c.give_text.result (g.K.Keeper.known c.args.self.now.keeper) (g.K.Keeper.known c.give_text.new.keeper) (returns-clause-gives g c) (λ none. calls_step.aborts c.args.self.now.agent c.args.deal.now none)
