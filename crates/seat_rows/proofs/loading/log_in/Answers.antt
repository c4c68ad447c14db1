use Rattle.std.proofs.Common.{ℕ, List, IfErr, subst}
use Rattle.key_ring.proofs.LoadedTexts.{handed_on}
use Rattle.vote_log.specs.Entry.{Entry}
use Rattle.seat_rows.specs.SeatLoading.{IsLogFault, IsStateFault}
use Rattle.seat_rows.proofs.StatesLoaded.{record_lacks, text_lacks, log_lacks, on_err}
use Rattle.seat_rows.proofs.loading.log_in.Goals as goal

pub returns-in_err-recs-clause-fault : goal.returns-in_err-recs-clause-fault
returns-in_err-recs-clause-fault c signer =
    let is = rw c.in_err-recs.was at c.read_records.ensures.fault in
    handed_on _ c.from_residual.result c.in_err-recs.field-0.0 c.from_residual.ensures.1 (record_lacks c.args.place.now c.args.rows signer _ is)

pub returns-in_err-texts-clause-fault : goal.returns-in_err-texts-clause-fault
returns-in_err-texts-clause-fault c signer =
    let is = rw c.in_err-texts.was at c.read_texts.ensures.fault in
    handed_on _ c.from_residual-in_err-texts.result c.in_err-texts.field-0.0 c.from_residual-in_err-texts.ensures.1 (text_lacks c.args.place.now c.args.rows signer _ is)

pub returns-clause-fault : goal.returns-clause-fault
returns-clause-fault c signer =
    let records = rw c.in_ok-recs.was at c.read_records.ensures.rows in
    let texts_are = rw c.in_ok-texts.was at c.read_texts.ensures.rows in
    let amiss : IfErr c.log_of.result (IsLogFault c.args.place.now c.in_ok-recs.recs.items c.in_ok-texts.texts.items) =
    subst (λ (recs : List Entry). IfErr c.log_of.result (IsLogFault c.args.place.now recs c.in_ok-texts.texts.items)) c.deref.ensures.value
    (subst (λ (texts : List (List ℕ)). IfErr c.log_of.result (IsLogFault c.args.place.now c.deref.result.now texts)) c.deref-2.ensures.value c.log_of.ensures.fault) in
    on_err (IsLogFault c.args.place.now c.in_ok-recs.recs.items c.in_ok-texts.texts.items) (IsStateFault c.args.place.now c.args.rows signer) c.log_of.result
    (λ fault is. log_lacks c.args.place.now c.args.rows signer c.in_ok-recs.recs.items c.in_ok-texts.texts.items fault records texts_are is) amiss
