use Rattle.std.proofs.Common.{◌≡◌, ◌+◌, List, Err, sym, subst, rules, arith}
use Rattle.cert_core.specs.declared.seat_sig.SeatSig.{SeatSig}
use Rattle.claim_core.specs.ClaimReading.{sig_from}
use Rattle.claim_core.proofs.Listed.{AreTaken, gives_err, more}
use Rattle.claim_core.proofs.parts.take_more_sigs.Goals as goal

pub returns-in_err-sig : goal.returns-in_err-sig
returns-in_err-sig c =
    let is : c.from_residual.result ≡ Err c.in_err-sig.field-0.0 = search rules in
    gives_err sig_from c.args.count c.args.bytes.now c.args.at c.loop-number.number c.loop-number.sigs.items c.loop-number.next c.in_err-sig.field-0.0 c.from_residual.result (omega arith) is c.in_err-sig.ensures c.loop-number.invariant

pub loop-number-preserved : goal.loop-number-preserved
loop-number-preserved c =
    subst (λ (values : List SeatSig). AreTaken sig_from c.args.count c.args.bytes.now c.args.at (c.loop-number.number + 1) values c.in_ok-sig.behind) (sym c.in_ok-push.ensures.items)
    (more sig_from c.args.count c.args.bytes.now c.args.at c.loop-number.number c.loop-number.sigs.items c.loop-number.next c.in_ok-sig.sig c.in_ok-sig.behind (omega arith) c.in_ok-sig.ensures c.loop-number.invariant)
