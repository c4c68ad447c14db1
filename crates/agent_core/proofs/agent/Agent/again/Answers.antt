use Rattle.std.proofs.Common.{subst}
use Rattle.joined_deals.specs.AgentCalls.{again_refusal}
use Rattle.agent_core.specs.declared.wanted.Wanted.TheVariants.{Act}
use Rattle.agent_core.specs.WantedTexts.{wanted_in}
use Rattle.agent_core.specs.AgentDoes.{Gives, IsEnvelope}
use Rattle.agent_core.specs.AgentSeen.{AgentSeen, seen_in}
use Rattle.agent_core.proofs.Calls.{same_again}
use Rattle.agent_core.proofs.agent.Agent.again.Goals as goal

pub returns-clause-gives : goal.returns-clause-gives
returns-clause-gives g c =
    let deal = c.args.deal.now in
    let now = seen_in c.give_again.new.keeper c.give_again.new.state in
    let after = g.K.Keeper.known c.give_again.new.keeper in
    subst (λ (s : AgentSeen g.row.K.Denot). Gives (again_refusal s.agent deal c.args.place) (IsEnvelope s (wanted_in s.agent deal (Act c.args.place))) (wanted_in s.agent deal (Act c.args.place)) s now c.give_again.result (g.K.Keeper.known s.keeper) after) c.self.view_is c.give_again.ensures.gives

pub returns-clause-same : goal.returns-clause-same
returns-clause-same g c =
    same_again c.args.self.now (seen_in c.give_again.new.keeper c.give_again.new.state) c.args.deal.now c.args.place c.give_again.result (g.K.Keeper.known c.args.self.now.keeper) (g.K.Keeper.known c.give_again.new.keeper) (returns-clause-gives g c)
