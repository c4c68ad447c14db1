use Rattle.std.proofs.Common.{◌≡◌, ◌<◌, ◌≤◌, ◌^◌, length, List, Some, sym, ap, ◌∙◌, arith}
use Rattle.joined_deals.specs.DealTexts.{JoinedTold}
use Rattle.joined_deals.specs.Agents.{deal_joined}
use Rattle.agent_core.specs.WantedTexts.{wanted_text}
use Rattle.agent_core.proofs.Signed.{room, gives, keeps}
use Rattle.agent_core.proofs.signing.give_text.Goals as goal

pub sign_text-requires-clause-room : goal.sign_text-requires-clause-room
sign_text-requires-clause-room g c =
    let found : deal_joined c.args.state.now.deals.items c.args.deal.now ≡ Some c.in-Some.joined.now = sym (c.in-Some.ensures ∙ ap (λ (ds : List JoinedTold). deal_joined ds c.args.deal.now) c.deref.ensures.value) in
    let is : wanted_text c.args.wanted c.in-Some.joined.now ≡ Some c.in-Some-text_in.text.now = sym c.in-Some-text_in.ensures.text in
    room c.args.state.now c.args.deal.now c.args.wanted c.in-Some.joined.now c.in-Some-text_in.text.now c.requires.keys found is

pub returns-clause-gives : goal.returns-clause-gives
returns-clause-gives g c =
    let found : deal_joined c.args.state.now.deals.items c.args.deal.now ≡ Some c.in-Some.joined.now = sym (c.in-Some.ensures ∙ ap (λ (ds : List JoinedTold). deal_joined ds c.args.deal.now) c.deref.ensures.value) in
    let is : wanted_text c.args.wanted c.in-Some.joined.now ≡ Some c.in-Some-text_in.text.now = sym c.in-Some-text_in.ensures.text in
    let small : length c.args.state.now.signer.texts < 2 ^ 32 = omega (arith, c.requires.keys, c.args.state.now.signer.spec.few) in
    let s = c.sign_text.ensures in
    gives c.args.state.now c.args.deal.now c.args.wanted c.in-Some.joined.now c.in-Some-text_in.text.now c.requires.keys found is c.args.keeper.now c.sign_text.new.keeper c.sign_text.new.signer (g.K.Keeper.known c.args.keeper.now) (g.K.Keeper.known c.sign_text.new.keeper) small
    c.sign_text.result s.envelope s.signed s.unchanged s.leaves s.store

pub returns-clause-keeps : goal.returns-clause-keeps
returns-clause-keeps g c =
    let found : deal_joined c.args.state.now.deals.items c.args.deal.now ≡ Some c.in-Some.joined.now = sym (c.in-Some.ensures ∙ ap (λ (ds : List JoinedTold). deal_joined ds c.args.deal.now) c.deref.ensures.value) in
    let is : wanted_text c.args.wanted c.in-Some.joined.now ≡ Some c.in-Some-text_in.text.now = sym c.in-Some-text_in.ensures.text in
    let small : length c.args.state.now.signer.texts < 2 ^ 32 = omega (arith, c.requires.keys, c.args.state.now.signer.spec.few) in
    let s = c.sign_text.ensures in
    keeps c.args.state.now c.args.deal.now c.args.wanted c.in-Some.joined.now c.in-Some-text_in.text.now c.requires.keys found is c.args.keeper.now c.sign_text.new.keeper c.sign_text.new.signer (g.K.Keeper.known c.args.keeper.now) (g.K.Keeper.known c.sign_text.new.keeper) small
    c.sign_text.result c.requires s.signed s.unchanged s.backed
