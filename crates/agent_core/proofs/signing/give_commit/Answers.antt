use Rattle.std.proofs.Common.{◌≡◌, Some, refl, sym, ◌∙◌}
use Rattle.dh_base.specs.declared.outcome.Outcome.TheVariants.{Commit}
use Rattle.joined_deals.specs.AgentCalls.{commit_refusal, vote_in, signed_if}
use Rattle.agent_core.specs.AgentSeen.{agent_in, seen_in}
use Rattle.agent_core.specs.AgentDoes.{IsEnvelope, batches_if}
use Rattle.agent_core.proofs.Doing.{is_refused}
use Rattle.agent_core.proofs.Refusing.{commit_own}
use Rattle.agent_core.proofs.signing.give_commit.Goals as goal

pub returns-in-Some-clause-gives : goal.returns-in-Some-clause-gives
returns-in-Some-clause-gives g c =
    let agent = agent_in c.args.state.now in
    let deal = c.args.deal.now in
    let old = seen_in c.args.keeper.now c.args.state.now in
    let is : commit_refusal agent deal ≡ Some c.in-Some.fault = sym c.in_ok-fault.ensures ∙ c.in-Some.is in
    is_refused (commit_refusal agent deal) (IsEnvelope old (vote_in agent deal Commit)) (signed_if agent (vote_in agent deal Commit)) (batches_if old (vote_in agent deal Commit)) old old (g.K.Keeper.known c.args.keeper.now) c.in-Some.fault is (commit_own agent deal c.in-Some.fault is) refl
