use Rattle.std.proofs.Common.{sym, ◌∙◌}
use Rattle.claim_core.proofs.Leading.{leads_on}
use Rattle.claim_core.proofs.certifying.next_set.Goals as goal

pub returns-in-Ok-clause-leads : goal.returns-in-Ok-clause-leads
returns-in-Ok-clause-leads c =
    leads_on c.args.house.now c.args.recs.now c.args.set.now c.args.link.now c.in_ok-next.next c.set_id.result c.set_id-2.result c.handover_text-text.result c.as_slice.result.now
    (sym c.named_set.ensures ∙ c.in_ok-next.was) (sym c.is_on_path.ensures.value ∙ c.if-not-is_on_path.false)
    c.set_id.ensures c.set_id-2.ensures c.handover_text-text.ensures c.as_slice.ensures c.in-Ok.ensures.found.0
