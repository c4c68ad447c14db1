use Rattle.std.proofs.Common.{◌≡◌, List, ap, ◌∙◌, arith}
use Rattle.deal_core.specs.declared.step.Step.{Step}
use Rattle.clear_core.specs.Clearing.{outgoing, incoming}
use Rattle.clear_core.proofs.Least.{need_le, outgoing_le, incoming_le, covers}
use Rattle.clear_core.proofs.clearing.due.Goals as goal

pub flows-came-requires-clause-went : goal.flows-came-requires-clause-went
flows-came-requires-clause-went c =
    rw c.steps.ensures.value
    (omega (arith, outgoing_le c.args.deal.now.steps c.args.party c.args.ledger.now c.args.asset.now, c.steps.ensures.kept.kept.totals c.args.ledger.now c.args.asset.now))

pub flows-came-requires-clause-came : goal.flows-came-requires-clause-came
flows-came-requires-clause-came c =
    rw c.steps.ensures.value
    (omega (arith, incoming_le c.args.deal.now.steps c.args.party c.args.ledger.now c.args.asset.now, c.steps.ensures.kept.kept.totals c.args.ledger.now c.args.asset.now))

pub overflow_add-result : goal.overflow_add-result
overflow_add-result c =
    let came : c.flows-came.result.0 ≡ incoming c.args.deal.now.steps c.args.party c.args.ledger.now c.args.asset.now = c.flows-came.ensures.came ∙ ap (λ (steps : List Step). incoming steps c.args.party c.args.ledger.now c.args.asset.now) c.steps.ensures.value in
    omega (arith, c.need.ensures.small, incoming_le c.args.deal.now.steps c.args.party c.args.ledger.now c.args.asset.now, c.steps.ensures.kept.kept.totals c.args.ledger.now c.args.asset.now)

pub overflow_sub-result : goal.overflow_sub-result
overflow_sub-result c =
    let came : c.flows-came.result.0 ≡ incoming c.args.deal.now.steps c.args.party c.args.ledger.now c.args.asset.now = c.flows-came.ensures.came ∙ ap (λ (steps : List Step). incoming steps c.args.party c.args.ledger.now c.args.asset.now) c.steps.ensures.value in
    let went : c.flows-came.result.1 ≡ outgoing c.args.deal.now.steps c.args.party c.args.ledger.now c.args.asset.now = c.flows-came.ensures.went ∙ ap (λ (steps : List Step). outgoing steps c.args.party c.args.ledger.now c.args.asset.now) c.steps.ensures.value in
    omega (arith, c.need.ensures.value, covers c.args.deal.now.steps c.args.party c.args.ledger.now c.args.asset.now)

pub returns-clause-not_cut : goal.returns-clause-not_cut
returns-clause-not_cut c =
    let came : c.flows-came.result.0 ≡ incoming c.args.deal.now.steps c.args.party c.args.ledger.now c.args.asset.now = c.flows-came.ensures.came ∙ ap (λ (steps : List Step). incoming steps c.args.party c.args.ledger.now c.args.asset.now) c.steps.ensures.value in
    let went : c.flows-came.result.1 ≡ outgoing c.args.deal.now.steps c.args.party c.args.ledger.now c.args.asset.now = c.flows-came.ensures.went ∙ ap (λ (steps : List Step). outgoing steps c.args.party c.args.ledger.now c.args.asset.now) c.steps.ensures.value in
    omega (arith, c.need.ensures.value, covers c.args.deal.now.steps c.args.party c.args.ledger.now c.args.asset.now)

pub returns-clause-small : goal.returns-clause-small
returns-clause-small c =
    let came : c.flows-came.result.0 ≡ incoming c.args.deal.now.steps c.args.party c.args.ledger.now c.args.asset.now = c.flows-came.ensures.came ∙ ap (λ (steps : List Step). incoming steps c.args.party c.args.ledger.now c.args.asset.now) c.steps.ensures.value in
    let went : c.flows-came.result.1 ≡ outgoing c.args.deal.now.steps c.args.party c.args.ledger.now c.args.asset.now = c.flows-came.ensures.went ∙ ap (λ (steps : List Step). outgoing steps c.args.party c.args.ledger.now c.args.asset.now) c.steps.ensures.value in
    omega (arith, c.need.ensures.value, need_le c.args.deal.now.steps c.args.party c.args.ledger.now c.args.asset.now, incoming_le c.args.deal.now.steps c.args.party c.args.ledger.now c.args.asset.now, c.steps.ensures.kept.kept.totals c.args.ledger.now c.args.asset.now)
