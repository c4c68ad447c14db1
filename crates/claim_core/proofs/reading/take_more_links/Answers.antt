use Rattle.std.proofs.Common.{◌≡◌, ◌+◌, List, Err, sym, subst, rules, arith}
use Rattle.claim_core.specs.declared.link.Link.{Link}
use Rattle.claim_core.specs.ClaimReading.{link_from}
use Rattle.claim_core.proofs.Listed.{AreTaken, gives_err, more}
use Rattle.claim_core.proofs.reading.take_more_links.Goals as goal

pub returns-in_err-link : goal.returns-in_err-link
returns-in_err-link c =
    let is : c.from_residual.result ≡ Err c.in_err-link.field-0.0 = search rules in
    gives_err link_from c.args.count c.args.bytes.now c.args.at c.loop-number.number c.loop-number.links.items c.loop-number.next c.in_err-link.field-0.0 c.from_residual.result (omega arith) is c.in_err-link.ensures c.loop-number.invariant

pub loop-number-preserved : goal.loop-number-preserved
loop-number-preserved c =
    subst (λ (values : List Link). AreTaken link_from c.args.count c.args.bytes.now c.args.at (c.loop-number.number + 1) values c.in_ok-link.behind) (sym c.in_ok-push.ensures.items)
    (more link_from c.args.count c.args.bytes.now c.args.at c.loop-number.number c.loop-number.links.items c.loop-number.next c.in_ok-link.link c.in_ok-link.behind (omega arith) c.in_ok-link.ensures c.loop-number.invariant)
