use Rattle.std.proofs.Common.{◌≡◌, Ok, Err, IfOk, Result, ◌∙◌, arith}
use Rattle.dh_base.specs.Fields.{AreBytes}
use Rattle.vote_log.specs.Entry.{Entry}
use Rattle.vote_log.specs.RecordTexts.{IsRecordAt, record_at}
use Rattle.vote_log.specs.declared.record_fault.RecordFault.{RecordFault}
use Rattle.vote_log.proofs.RecordTexts.{record_read}
use Rattle.vote_log.proofs.record_texts.record_at.Goals as goal

if_ok : (P : Entry → Type 0) (r read : Result Entry RecordFault) → r ≡ read → ((x : Entry) → read ≡ Ok x → P x) → IfOk r P
if_ok P (Ok x) read e f = f x (cc e)
if_ok P (Err d) read e f = tt

pub returns-clause-found : goal.returns-clause-found
returns-clause-found c =
    let are : AreBytes c.args.bytes.now = λ i. omega (arith, c.type_inv.bytes i) in
    if_ok (IsRecordAt c.args.bytes.now c.args.at) c.take_record.result (record_at c.args.bytes.now c.args.at) c.take_record.ensures
    (λ rec. (record_read c.args.bytes.now c.args.at rec are).0)

pub returns-clause-only : goal.returns-clause-only
returns-clause-only c = λ rec is.
    let are : AreBytes c.args.bytes.now = λ i. omega (arith, c.type_inv.bytes i) in
    c.take_record.ensures ∙ (record_read c.args.bytes.now c.args.at rec are).1 is
