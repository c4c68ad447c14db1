use Rattle.std.proofs.Common.{ℕ, length, subst}
use Rattle.key_ring.proofs.LoadedTexts.{handed_on}
use Rattle.seat_rows.specs.SeatLoading.{IsClosingFault}
use Rattle.seat_rows.proofs.StatesLoaded.{begun_lacks, closing_lacks, early_lacks}
use Rattle.seat_rows.proofs.loading.phases_of.Goals as goal

pub returns-in_err-begun-clause-fault : goal.returns-in_err-begun-clause-fault
returns-in_err-begun-clause-fault c signer =
    let is = rw c.in_err-begun.was at c.begun_of.ensures.fault in
    handed_on _ c.from_residual.result c.in_err-begun.field-0.0 c.from_residual.ensures.1 (begun_lacks c.args.place.now c.args.rows.now signer _ is)

pub returns-in_err-closing-clause-fault : goal.returns-in_err-closing-clause-fault
returns-in_err-closing-clause-fault c signer =
    let row = rw c.in_ok-begun.was at c.begun_of.ensures.found in
    let first = rw c.in_ok-begun.was at c.begun_of.ensures.first in
    let amiss = rw c.in_err-closing.was at c.closing_of.ensures.fault in
    let is : IsClosingFault c.in_ok-begun.begun (length c.args.rows.now.records) c.args.rows.now.closing c.in_err-closing.field-0.0 =
    subst (λ (n : ℕ). IsClosingFault c.in_ok-begun.begun n c.args.rows.now.closing c.in_err-closing.field-0.0) c.len.ensures amiss in
    handed_on _ c.from_residual-in_err-closing.result c.in_err-closing.field-0.0 c.from_residual-in_err-closing.ensures.1 (closing_lacks c.args.place.now c.args.rows.now signer c.in_ok-begun.begun _ row first is)

pub returns-in_err-check_begun-clause-fault : goal.returns-in_err-check_begun-clause-fault
returns-in_err-check_begun-clause-fault c signer =
    let row = rw c.in_ok-begun.was at c.begun_of.ensures.found in
    let first = rw c.in_ok-begun.was at c.begun_of.ensures.first in
    let is = rw c.in_err-check_begun.was at c.check_begun.ensures.fault in
    handed_on _ c.from_residual-in_err-check_begun.result c.in_err-check_begun.field-0.0 c.from_residual-in_err-check_begun.ensures.1 (early_lacks c.args.place.now c.args.rows.now signer c.in_ok-begun.begun _ row first is)
