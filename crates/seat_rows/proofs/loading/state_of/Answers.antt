use Rattle.std.proofs.Common.{◌≡◌, ◌≤◌, length, refl, arith}
use Rattle.key_ring.proofs.LoadedTexts.{handed_on}
use Rattle.seat_rows.specs.declared.state.SeatState.{SeatState}
use Rattle.seat_rows.proofs.StatesLoaded.{rows_of_state, sound_state, last_lacks}
use Rattle.seat_rows.proofs.loading.state_of.Goals as goal

pub returns-in_err-phases-clause-fault : goal.returns-in_err-phases-clause-fault
returns-in_err-phases-clause-fault c =
    let amiss = c.phases_of.ensures.fault c.args.signer in
    let is = rw c.in_err-phases.was at amiss in
    handed_on _ c.from_residual.result c.in_err-phases.field-0.0 c.from_residual.ensures.1 is

pub returns-in_err-log-clause-fault : goal.returns-in_err-log-clause-fault
returns-in_err-log-clause-fault c =
    let amiss = c.log_in.ensures.fault c.args.signer in
    let is = rw c.in_err-log.was at amiss in
    handed_on _ c.from_residual-in_err-log.result c.in_err-log.field-0.0 c.from_residual-in_err-log.ensures.1 is

pub returns-in_err-check_last_key-clause-fault : goal.returns-in_err-check_last_key-clause-fault
returns-in_err-check_last_key-clause-fault c =
    let phases = c.in_ok-phases.phases in
    let state : SeatState = record { signer = c.args.signer; log = c.in_ok-log.log; begun = phases.begun; closing = phases.closing } in
    let p = rw c.in_ok-phases.was at c.phases_of.ensures.found in
    let l = rw c.in_ok-log.was at c.log_in.ensures.found in
    let is = rw c.in_err-check_last_key.was at c.check_last_key.ensures.fault in
    handed_on _ c.from_residual-in_err-check_last_key.result c.in_err-check_last_key.field-0.0 c.from_residual-in_err-check_last_key.ensures.1
    (last_lacks c.args.place.now c.args.rows c.args.signer state _ refl (rows_of_state c.args.place.now c.args.rows state phases p l refl refl) is)

pub returns-clause-rows : goal.returns-clause-rows
returns-clause-rows c =
    let phases = c.in_ok-phases.phases in
    let state : SeatState = record { signer = c.args.signer; log = c.in_ok-log.log; begun = phases.begun; closing = phases.closing } in
    let p = rw c.in_ok-phases.was at c.phases_of.ensures.found in
    let l = rw c.in_ok-log.was at c.log_in.ensures.found in
    rows_of_state c.args.place.now c.args.rows state phases p l refl refl

pub returns-clause-sound : goal.returns-clause-sound
returns-clause-sound c =
    let phases = c.in_ok-phases.phases in
    let state : SeatState = record { signer = c.args.signer; log = c.in_ok-log.log; begun = phases.begun; closing = phases.closing } in
    let p = rw c.in_ok-phases.was at c.phases_of.ensures.found in
    let l = rw c.in_ok-log.was at c.log_in.ensures.found in
    let held = rw c.in_ok-check_last_key.was at c.check_last_key.ensures.held in
    let few : length c.args.signer.texts ≤ c.args.signer.spec.size = omega (arith, c.used-used.ensures.used, c.used-used.ensures.few) in
    sound_state c.args.place.now c.args.rows state phases p l refl refl few held
