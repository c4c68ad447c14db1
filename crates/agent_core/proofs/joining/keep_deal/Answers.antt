use Rattle.std.proofs.Common.{◌≡◌, List, [], ◌∷◌, sym, ap, subst, ◌∙◌}
use Rattle.keeper_core.specs.declared.change.Change.{Change}
use Rattle.keeper_core.specs.Leaving.{Ended, done, of_keep_fault, Leaves}
use Rattle.keeper_core.proofs.Leaving.{handed_on}
use Rattle.joined_deals.specs.AgentFaults.{of_agent_fault}
use Rattle.agent_core.specs.AgentTables.{deal_changes}
use Rattle.agent_core.proofs.joining.keep_deal.Goals as goal

pub returns-in-Err-clause-leaves : goal.returns-in-Err-clause-leaves
returns-in-Err-clause-leaves g c =
    let before = g.K.Keeper.known c.args.keeper.now in
    let after = g.K.Keeper.known c.commit.new.self in
    let how : of_agent_fault c.from.result ≡ of_keep_fault c.in-Err.fault = ap of_agent_fault c.from.ensures ∙ handed_on c.in-Err.fault in
    subst (λ (h : Ended). Leaves (deal_changes c.args.joined ∷ []) h before after) (sym how)
    (subst (λ (batch : List Change). Leaves (batch ∷ []) (of_keep_fault c.in-Err.fault) before after) c.in_ok-batch.ensures c.in-Err.ensures.leaves)

pub returns-clause-leaves : goal.returns-clause-leaves
returns-clause-leaves g c =
    subst (λ (batch : List Change). Leaves (batch ∷ []) done (g.K.Keeper.known c.args.keeper.now) (g.K.Keeper.known c.commit.new.self)) c.in_ok-batch.ensures c.in_default.ensures.leaves
