use Rattle.std.proofs.Common.{◌≡◌, ◌+◌, List, Err, sym, ◌∙◌, subst, rules, arith}
use Rattle.vote_log.specs.Entry.{Entry}
use Rattle.claim_core.specs.ClaimReading.{record_from}
use Rattle.claim_core.proofs.Listed.{AreTaken, gives_err, given_fault, more}
use Rattle.claim_core.proofs.parts.take_more_records.Goals as goal

pub returns-in_err-rec : goal.returns-in_err-rec
returns-in_err-rec c =
    let is : c.from_residual.result ≡ Err c.in_err-rec.field-0.0 = search rules in
    gives_err record_from c.args.count c.args.bytes.now c.args.at c.loop-number.number c.loop-number.recs.items c.loop-number.next c.in_err-rec.field-0.0 c.from_residual.result (omega arith) is (given_fault c.in_err-rec.field-0.0 (record_from c.args.bytes.now c.loop-number.next) (sym c.take_record.ensures ∙ c.in_err-rec.was)) c.loop-number.invariant

pub loop-number-preserved : goal.loop-number-preserved
loop-number-preserved c =
    subst (λ (values : List Entry). AreTaken record_from c.args.count c.args.bytes.now c.args.at (c.loop-number.number + 1) values c.in_ok-rec.behind) (sym c.in_ok-push.ensures.items)
    (more record_from c.args.count c.args.bytes.now c.args.at c.loop-number.number c.loop-number.recs.items c.loop-number.next c.in_ok-rec.rec c.in_ok-rec.behind (omega arith) (sym c.take_record.ensures ∙ c.in_ok-rec.was) c.loop-number.invariant)
