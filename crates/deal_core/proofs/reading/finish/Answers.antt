use Rattle.std.proofs.Common.{◌≡◌, length, sym, ◌∙◌, Ok}
use Rattle.deal_core.specs.Deals.{IsConnected}
use Rattle.deal_core.specs.Kept.{IsDeal}
use Rattle.deal_core.specs.Drafts.{reading_of}
use Rattle.deal_core.proofs.Finishing.{made, made_is, read_whole, not_empty, first_same, connected_same, apart, is_deal, is_text}
use Rattle.deal_core.proofs.reading.finish.Goals as goal

pub returns-in-Some : goal.returns-in-Some
returns-in-Some c =
    let is : c.args.draft ≡ made c.in-Some-Some.name c.in-Some-Some.house c.draft.inside.parties.items c.draft.inside.steps.items = sym c.draft.view_is ∙ made_is c.draft.inside.name c.draft.inside.house c.in-Some-Some.name c.in-Some-Some.house c.draft.inside.parties.items c.draft.inside.steps.items c.in-Some-Some.is-0 c.in-Some-Some.is-1 in
    let read : reading_of c.args.text.now ≡ Ok (made c.in-Some-Some.name c.in-Some-Some.house c.draft.inside.parties.items c.draft.inside.steps.items) = read_whole c.args.text.now c.args.draft c.in-Some-Some.name c.in-Some-Some.house c.draft.inside.parties.items c.draft.inside.steps.items is c.requires (not_empty c.as_slice.result.now c.draft.inside.steps.items c.is_empty.result c.is_empty.ensures c.if-is_empty.false c.as_slice.ensures.value) in
    apart c.args.text.now c.in-Some-Some.name c.in-Some-Some.house c.draft.inside.parties.items c.draft.inside.steps.items c.in-Some.party read (first_same c.as_slice-2.result.now c.draft.inside.steps.items c.as_slice-3.result.now c.draft.inside.parties.items c.in-Some.party c.as_slice-2.ensures.value c.as_slice-3.ensures.value c.in-Some.ensures.some)

pub invariant_of-result : goal.invariant_of-result
invariant_of-result c =
    let is : c.args.draft ≡ made c.in-Some-Some.name c.in-Some-Some.house c.draft.inside.parties.items c.draft.inside.steps.items = sym c.draft.view_is ∙ made_is c.draft.inside.name c.draft.inside.house c.in-Some-Some.name c.in-Some-Some.house c.draft.inside.parties.items c.draft.inside.steps.items c.in-Some-Some.is-0 c.in-Some-Some.is-1 in
    let read : reading_of c.args.text.now ≡ Ok (made c.in-Some-Some.name c.in-Some-Some.house c.draft.inside.parties.items c.draft.inside.steps.items) = read_whole c.args.text.now c.args.draft c.in-Some-Some.name c.in-Some-Some.house c.draft.inside.parties.items c.draft.inside.steps.items is c.requires (not_empty c.as_slice.result.now c.draft.inside.steps.items c.is_empty.result c.is_empty.ensures c.if-is_empty.false c.as_slice.ensures.value) in
    let connected : IsConnected c.draft.inside.steps.items (length c.draft.inside.parties.items) = connected_same c.as_slice-2.result.now c.draft.inside.steps.items c.as_slice-3.result.now c.draft.inside.parties.items c.as_slice-2.ensures.value c.as_slice-3.ensures.value c.in_default-first_apart.ensures.none in
    let deal : IsDeal (record { id = c.digest.result; house = c.in-Some-Some.house; name = c.in-Some-Some.name; parties = c.draft.inside.parties.items; steps = c.draft.inside.steps.items }) = is_deal c.args.text.now c.in-Some-Some.name c.in-Some-Some.house c.draft.inside.parties.items c.draft.inside.steps.items c.digest.result (c.found.ensures c.args.text.now _ read) c.draft.invariant connected c.digest.ensures in
    rw (c.from_vec.ensures, c.from_vec-2.ensures) deal

pub returns : goal.returns
returns c =
    let is : c.args.draft ≡ made c.in-Some-Some.name c.in-Some-Some.house c.draft.inside.parties.items c.draft.inside.steps.items = sym c.draft.view_is ∙ made_is c.draft.inside.name c.draft.inside.house c.in-Some-Some.name c.in-Some-Some.house c.draft.inside.parties.items c.draft.inside.steps.items c.in-Some-Some.is-0 c.in-Some-Some.is-1 in
    let read : reading_of c.args.text.now ≡ Ok (made c.in-Some-Some.name c.in-Some-Some.house c.draft.inside.parties.items c.draft.inside.steps.items) = read_whole c.args.text.now c.args.draft c.in-Some-Some.name c.in-Some-Some.house c.draft.inside.parties.items c.draft.inside.steps.items is c.requires (not_empty c.as_slice.result.now c.draft.inside.steps.items c.is_empty.result c.is_empty.ensures c.if-is_empty.false c.as_slice.ensures.value) in
    let connected : IsConnected c.draft.inside.steps.items (length c.draft.inside.parties.items) = connected_same c.as_slice-2.result.now c.draft.inside.steps.items c.as_slice-3.result.now c.draft.inside.parties.items c.as_slice-2.ensures.value c.as_slice-3.ensures.value c.in_default-first_apart.ensures.none in
    let deal : IsDeal (record { id = c.digest.result; house = c.in-Some-Some.house; name = c.in-Some-Some.name; parties = c.draft.inside.parties.items; steps = c.draft.inside.steps.items }) = is_deal c.args.text.now c.in-Some-Some.name c.in-Some-Some.house c.draft.inside.parties.items c.draft.inside.steps.items c.digest.result (c.found.ensures c.args.text.now _ read) c.draft.invariant connected c.digest.ensures in
    rw (c.from_vec.ensures, c.from_vec-2.ensures) (record { kept = deal; spelled = is_text c.args.text.now c.in-Some-Some.name c.in-Some-Some.house c.draft.inside.parties.items c.draft.inside.steps.items c.digest.result (c.found.ensures c.args.text.now _ read); read = read })
