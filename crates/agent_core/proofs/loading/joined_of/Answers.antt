use Rattle.std.proofs.Common.{◌≡◌, ℕ, List, sym, ap, subst, ◌∙◌}
use Rattle.dh_base.specs.declared.id.Id.{Id}
use Rattle.deal_core.specs.Deals.{DealTold}
use Rattle.joined_deals.specs.DealTexts.{JoinedTold}
use Rattle.agent_core.specs.AgentRows.{IsKeptDeal, IsRowOf}
use Rattle.agent_core.proofs.KeptDeals.{bytes_differ, bytes_agree, no_key, no_house, no_party, row_joined}
use Rattle.agent_core.proofs.loading.joined_of.Goals as goal

pub returns-then-ne-clause-none : goal.returns-then-ne-clause-none
returns-then-ne-clause-none c =
    let found = rw c.in_ok-kept.was at c.kept_deal.ensures.some in
    let kept = rw c.in-Some.is at found in
    let is : IsKeptDeal c.args.row.now.val c.in-Some.kept = subst (λ (v : List ℕ). IsKeptDeal v c.in-Some.kept) c.as_slice.ensures kept in
    no_key c.args.house.now c.args.account.now c.args.row.now c.in-Some.kept is
    (λ same. bytes_differ c.as_slice-2.result.now c.as_slice-3.result.now (sym c.ne.ensures ∙ c.if-ne.true)
    (c.as_slice-2.ensures ∙ (same ∙ sym (c.as_slice-3.ensures ∙ ap (λ (d : DealTold). d.id.0) c.deal.view_is))))

pub returns-then-ne-2-clause-none : goal.returns-then-ne-2-clause-none
returns-then-ne-2-clause-none c =
    let found = rw c.in_ok-kept.was at c.kept_deal.ensures.some in
    let kept = rw c.in-Some.is at found in
    let is : IsKeptDeal c.args.row.now.val c.in-Some.kept = subst (λ (v : List ℕ). IsKeptDeal v c.in-Some.kept) c.as_slice.ensures kept in
    no_house c.args.house.now c.args.account.now c.args.row.now c.in-Some.kept is
    (λ same. bytes_differ c.deal.inside.house.0 c.args.house.now.0 (sym c.ne-2.ensures ∙ c.if-ne-2.true)
    (ap (λ (d : DealTold). d.house.0) c.deal.view_is ∙ ap (λ (id : Id). id.0) same))

pub returns-in_default-party_of-clause-none : goal.returns-in_default-party_of-clause-none
returns-in_default-party_of-clause-none c =
    let found = rw c.in_ok-kept.was at c.kept_deal.ensures.some in
    let kept = rw c.in-Some.is at found in
    let is : IsKeptDeal c.args.row.now.val c.in-Some.kept = subst (λ (v : List ℕ). IsKeptDeal v c.in-Some.kept) c.as_slice.ensures kept in
    no_party c.args.house.now c.args.account.now c.args.row.now c.in-Some.kept is (sym c.party_of.ensures.value ∙ c.in_default-party_of.is)

pub returns-clause-some : goal.returns-clause-some
returns-clause-some c =
    let found = rw c.in_ok-kept.was at c.kept_deal.ensures.some in
    let kept = rw c.in-Some.is at found in
    let is : IsKeptDeal c.args.row.now.val c.in-Some.kept = subst (λ (v : List ℕ). IsKeptDeal v c.in-Some.kept) c.as_slice.ensures kept in
    let key : c.args.row.now.key ≡ c.in-Some.kept.deal.id.0 = sym c.as_slice-2.ensures
    ∙ (bytes_agree c.as_slice-2.result.now c.as_slice-3.result.now (sym c.ne.ensures ∙ c.if-ne.false)
    ∙ (c.as_slice-3.ensures ∙ ap (λ (d : DealTold). d.id.0) c.deal.view_is)) in
    let house : c.in-Some.kept.deal.house.0 ≡ c.args.house.now.0 = sym (ap (λ (d : DealTold). d.house.0) c.deal.view_is)
    ∙ bytes_agree c.deal.inside.house.0 c.args.house.now.0 (sym c.ne-2.ensures ∙ c.if-ne-2.false) in
    subst (λ (joined : JoinedTold). IsRowOf c.args.house.now c.args.account.now c.args.row.now joined) (sym c.in_ok-joined.ensures)
    (row_joined c.args.house.now c.args.account.now c.args.row.now c.in-Some.kept is c.in-Some-party_of.index key (λ i. record { 0 = house i }) (sym c.party_of.ensures.value ∙ c.in-Some-party_of.is))
