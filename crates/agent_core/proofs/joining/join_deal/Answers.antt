use Rattle.std.proofs.Common.{rules, ◌≡◌, Result, Ok, Err, sym, subst}
use Rattle.dh_base.specs.declared.id.Id.{Id}
use Rattle.joined_deals.specs.declared.agent_fault.AgentFault.{AgentFault}
use Rattle.agent_core.specs.AgentSeen.{seen_in}
use Rattle.agent_core.specs.AgentDoes.{JoinsOrNot}
use Rattle.agent_core.proofs.Joined.{joins, keeps, refuses}
use Rattle.agent_core.proofs.joining.join_deal.Goals as goal

pub returns-in_err-offer-clause-joins : goal.returns-in_err-offer-clause-joins
returns-in_err-offer-clause-joins g c =
    let known = g.K.Keeper.known c.args.keeper.now in
    let seen = seen_in c.args.keeper.now c.args.state.now in
    let fault = c.in_err-offer.field-0.0 in
    let cause = rw c.in_err-offer.was at c.offer_of.ensures.cause in
    let unfailed = rw c.in_err-offer.was at c.offer_of.ensures.unfailed in
    let is : c.from_residual.result ≡ Err fault = search rules in
    subst (λ (r : Result Id AgentFault). JoinsOrNot c.args.text.now c.args.terms.now seen seen r known known) (sym is)
    (refuses c.args.text.now c.args.terms.now seen fault known (cause c.args.terms.now) unfailed)

pub returns-clause-joins : goal.returns-clause-joins
returns-clause-joins g c =
    let offer = rw c.in_ok-offer.was at c.offer_of.ensures.offer in
    let k = c.keep_deal.ensures in
    joins c.args.text.now c.args.terms.now c.args.keeper.now c.keep_deal.new.keeper c.args.state.now c.in_ok-joined.joined c.keep_deal.new.deals (g.K.Keeper.known c.args.keeper.now) (g.K.Keeper.known c.keep_deal.new.keeper)
    (c.in_ok-joined.ensures.joinable c.args.text.now offer) c.in_ok-joined.ensures.small c.keep_deal.result k.id k.kept k.unchanged k.leaves k.store

pub returns-clause-keeps : goal.returns-clause-keeps
returns-clause-keeps g c =
    let offer = rw c.in_ok-offer.was at c.offer_of.ensures.offer in
    let k = c.keep_deal.ensures in
    keeps c.args.text.now c.args.terms.now c.args.keeper.now c.keep_deal.new.keeper c.args.state.now c.in_ok-joined.joined c.keep_deal.new.deals (g.K.Keeper.known c.args.keeper.now) (g.K.Keeper.known c.keep_deal.new.keeper)
    (c.in_ok-joined.ensures.joinable c.args.text.now offer) c.in_ok-joined.ensures.small c.keep_deal.result c.requires k.kept k.unchanged k.leaves
