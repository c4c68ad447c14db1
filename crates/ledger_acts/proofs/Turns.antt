-- A book that begins with rows of which it is a part has fewer moves of each party than a turn can count.
use Rattle.std.proofs.Common.{◌<◌, Bool, true, false, cond, List, [], ◌∷◌, Some, arith}
use Rattle.std.specs.List.{find, AllByRecursion}
use Rattle.std.specs.Option.{option_map_or}
use Rattle.dh_base.specs.declared.id.Id.{Id}
use Rattle.escrow_book.specs.declared.row.BookRow.{BookRow}
use Rattle.escrow_book.specs.declared.row.MovesRow.{MovesRow}
use Rattle.escrow_book.specs.Base.{is_moves, greatest_turn}
use Rattle.escrow_book.specs.History.{moves_of}
use Rattle.escrow_book.specs.Reached.{IsGrown}
use Rattle.escrow_book.specs.PartRows.{no_rows, with_rows, part_of}
use Rattle.ledger_acts.specs.declared.movement.Movement.{Movement}
use Rattle.ledger_acts.specs.declared.movement.Movement.TheVariants.{Payment, Escrow, Transfer}
use Rattle.ledger_acts.specs.Movements.{TurnFits}

found_below : (test : MovesRow → Bool) (rows : List MovesRow) → AllByRecursion (λ (row : MovesRow). row.moves < greatest_turn) rows → option_map_or (λ (row : MovesRow). row.moves) (find test rows) 0 < greatest_turn
found_below test [] all = omega arith
found_below test (row ∷ rows) all = go (test row) (found_below test rows all.1)
  where
    go : (here : Bool) → option_map_or (λ (row : MovesRow). row.moves) (find test rows) 0 < greatest_turn → option_map_or (λ (row : MovesRow). row.moves) (cond here (Some row) (find test rows)) 0 < greatest_turn
    go true later = all.0
    go false later = later

part_turns : (rows : List BookRow) (deal party : Id) → IsGrown (part_of rows) → moves_of (part_of rows) deal party < greatest_turn
part_turns rows deal party grown =
    let below = found_below (is_moves deal party) (with_rows no_rows rows).1.moves grown.good.moves in
    omega (arith, below)

pub turn_fits : (rows : List BookRow) (movement : Movement) → IsGrown (part_of rows) → TurnFits (part_of rows) movement
turn_fits rows (Payment from to asset amount) grown = tt
turn_fits rows (Escrow deal party asset amount) grown = tt
turn_fits rows (Transfer deal from turn to asset amount) grown = part_turns rows deal from grown
