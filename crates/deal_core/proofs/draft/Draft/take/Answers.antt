use Rattle.std.proofs.Common.{◌≡◌, None, Some, subst, sym, ap, ◌∙◌, ◌++◌, ◌∷◌, [], List}
use Rattle.deal_core.specs.Drafts.{Draft, said_fault, with_indices}
use Rattle.deal_core.specs.Kept.{IsDraft}
use Rattle.deal_core.specs.declared.party.Party.{Party}
use Rattle.deal_core.specs.declared.step.Step.{Step}
use Rattle.deal_core.proofs.Drafting.{party_taken, step_taken}
use Rattle.deal_core.proofs.draft.Draft.take.Goals as goal

pub invariant_of-self-in-Continue-1 : goal.invariant_of-self-in-Continue-1
invariant_of-self-in-Continue-1 c =
    let draft : Draft = record { name = c.self.inside.name; house = c.self.inside.house; parties = c.self.inside.parties.items; steps = c.self.inside.steps.items } in
    let none : said_fault draft (Some c.args.said) ≡ None = ap (λ (d : Draft). said_fault d (Some c.args.said)) c.self.view_is ∙ c.requires in
    rw c.in_ok-push-in-Party.ensures.items (party_taken draft c.args.said c.in-Party.party c.in-Party.is none c.self.invariant)

pub invariant_of-self-in-Continue-branch-2 : goal.invariant_of-self-in-Continue-branch-2
invariant_of-self-in-Continue-branch-2 c =
    let draft : Draft = record { name = c.self.inside.name; house = c.self.inside.house; parties = c.self.inside.parties.items; steps = c.self.inside.steps.items } in
    let none : said_fault draft (Some c.args.said) ≡ None = ap (λ (d : Draft). said_fault d (Some c.args.said)) c.self.view_is ∙ c.requires in
    let made : c.with_indices-step.result ≡ with_indices c.self.inside.parties.items c.in-Step.step = c.with_indices-step.ensures ∙ ap (λ (ps : List Party). with_indices ps c.in-Step.step) c.as_slice.ensures.value in
    subst (IsDraft c.self.inside.parties.items) (sym (c.in_ok-push-in-Step.ensures.items ∙ ap (λ (s : Step). c.self.inside.steps.items ++ s ∷ []) made)) (step_taken draft c.args.said c.in-Step.step c.in-Step.is none c.self.invariant)
