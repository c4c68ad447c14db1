use Rattle.std.proofs.Common.{rules, ◌≡◌, IfErr, Result, Ok, Err, sym, subst}
use Rattle.joined_deals.specs.DealTexts.{JoinedTold}
use Rattle.joined_deals.specs.declared.agent_fault.AgentFault.{AgentFault}
use Rattle.joined_deals.specs.declared.agent_fault.AgentFault.TheVariants.{Terms}
use Rattle.joined_deals.specs.AgentCalls.{IsJoinFault}
use Rattle.agent_core.specs.AgentSeen.{agent_in}
use Rattle.agent_core.proofs.Offering.{breaks}
use Rattle.agent_core.proofs.joining.checked.Goals as goal

pub returns-in_err-check_terms-clause-cause : goal.returns-in_err-check_terms-clause-cause
returns-in_err-check_terms-clause-cause c =
    λ text offer.
    (let broken = c.in_err-check_terms.field-0.0 in
    let checks = rw c.in_err-check_terms.was at c.check_terms.ensures in
    let is : c.from_residual.result ≡ Err (Terms broken) = search rules in
    subst (λ (r : Result JoinedTold AgentFault). IfErr r (IsJoinFault (agent_in c.args.state.now) text c.args.terms.now)) (sym is) (breaks (agent_in c.args.state.now) text c.args.terms.now c.args.offer offer broken checks))
