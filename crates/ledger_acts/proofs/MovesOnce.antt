-- A movement under its key is the ledger's step.
use Rattle.std.proofs.Common.{◌≡◌, ℕ, ◌+◌, List, Option, Some, None, IfSome, Result, inl, ap}
use Rattle.std.specs.Option.{option_map, option_or}
use Rattle.dh_base.specs.declared.id.Id.{Id}
use Rattle.act_text.specs.declared.act.Act.{Act as Asked}
use Rattle.escrow_book.proofs.Lookups.{both_none}
use Rattle.keeper_core.specs.declared.change.Change.{Change}
use Rattle.keeper_core.specs.Tables.{Tables}
use Rattle.keeper_core.specs.Knowing.{Known}
use Rattle.keeper_core.specs.Stepping.{AtMostOne}
use Rattle.ledger_rows.specs.ActChanges.{act_changes}
use Rattle.ledger_rows.specs.Entries.{used_of}
use Rattle.ledger_acts.specs.declared.ledger_fault.LedgerFault.{LedgerFault}
use Rattle.ledger_acts.specs.declared.ledger_id.LedgerId.{LedgerId}
use Rattle.ledger_acts.specs.declared.place.Place.{Place}
use Rattle.ledger_acts.specs.declared.movement.Movement.{Movement}
use Rattle.ledger_acts.specs.ByRows.{RowAct, act_refusal, batches_of, act_batches}
use Rattle.ledger_acts.specs.Movements.{movement_looks, moving, movement_of, head_refusal, headed, MovesOnceByRows}
use Rattle.ledger_acts.specs.Steps.{ActsByStep}
use Rattle.ledger_acts.proofs.OnceSteps.{once_steps}
use Rattle.ledger_acts.proofs.MovementSteps.{AsksFor, moved_step, movement_fits, refusal_is, onward}
use Rattle.ledger_acts.proofs.ActsStep.{as_step, headed_is}

pub always_told : (X : Type 0) (told : Option Tables) → X → IfSome told (λ _. X)
always_told X None x = tt
always_told X (Some tables) x = x

few_of : (o : Option (List Change)) → AtMostOne (batches_of o)
few_of None = tt
few_of (Some batch) = tt

pub few_batches : {A : Type 0} (act : RowAct A) (tables : Tables) → AtMostOne (act_batches act tables)
few_batches act tables = few_of (option_map act.changes (act.said tables))

pub moves_once : (ledger : LedgerId) (place : Place) (account : Id) (q : ℕ) (message : List ℕ) (asked : Asked) (movement : Movement) → movement_of account asked ≡ Some movement →
    (result : Result ℕ LedgerFault) (before after : Known) → MovesOnceByRows ledger place account q message asked movement result before after → ActsByStep ledger place account q message asked result before after
moves_once ledger place account q message asked movement of result before after by opened entries stands next wide small reads fits =
    let act = moving movement place.acts (act_changes place.number account q message) in
    let head = head_refusal ledger asked in
    let asks : AsksFor opened entries account q message place.number place.acts wide small next.acts next.number movement asked = record { reads = reads; fits = fits; of = of } in
    let width = movement_fits opened entries account q message place.number place.acts wide small next.acts next.number asked movement of fits in
    let stepped = as_step opened entries account q message asked result before after (used_of entries account q) (option_or head (moved_step opened entries movement)) (headed_is opened entries account ledger place next asked movement of)
    (once_steps opened entries account q message wide small place.number next.number (1 + movement_looks movement) None (headed head (act_refusal act)) (act_batches act) (option_or head (moved_step opened entries movement)) (few_batches act)
    (λ tables is. ap (option_or head) (refusal_is opened entries account q message place.number place.acts wide small next.acts next.number movement width tables is))
    (λ unused tables is none. onward opened entries account q message place.number place.acts wide small next.acts next.number asked movement asks unused tables is (both_none head (act_refusal act tables) none).1)
    result before after by stands) in
    always_told _ after.tables (inl (record { reply = stepped.0; later = stepped.1; step = stepped.2; replies = stepped.3 }))
