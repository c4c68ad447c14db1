use Rattle.claim_core.proofs.Leading.{vouched_there}
use Rattle.claim_core.proofs.certifying.certified_for.Goals as goal

pub returns-in-Ok-clause-vouched : goal.returns-in-Ok-clause-vouched
returns-in-Ok-clause-vouched c =
    vouched_there c.args.set.now c.args.claim.now c.set_id.result c.as_slice-recs.result.now c.prefix_text-text.result c.as_slice.result.now
    c.set_id.ensures c.as_slice-recs.ensures c.prefix_text-text.ensures c.as_slice.ensures c.in-Ok.ensures.found.0
