use Rattle.claim_core.proofs.Leading.{certificate_found}
use Rattle.claim_core.proofs.certifying.examine.Goals as goal

pub returns-clause-found : goal.returns-clause-found
returns-clause-found c =
    certificate_found c.args.genesis.now c.args.claim.now c.in_ok-set.set c.set_id-house.result c.as_slice-recs.result.now c.as_slice.result.now c.certified_for.result
    c.set_id-house.ensures c.as_slice-recs.ensures c.as_slice.ensures c.in_ok-set.ensures.leads c.certified_for.ensures.exact c.certified_for.ensures.vouched
