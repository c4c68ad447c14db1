use Rattle.std.proofs.Common.{◌≡◌, subst, sym}
use Rattle.escrow_book.specs.History.{History}
use Rattle.escrow_book.specs.Reached.{IsGrown}
use Rattle.escrow_book.specs.PartRows.{part_of}
use Rattle.ledger_acts.specs.Movements.{TurnFits}
use Rattle.ledger_acts.proofs.Turns.{turn_fits}
use Rattle.ledger_acts.proofs.moving.moved_part.Goals as goal

pub make-requires : goal.make-requires
make-requires c =
    let movement = c.args.movement.now in
    let is : c.in_ok-book.book ≡ part_of c.args.rows.now = c.in_ok-book.ensures.part.1 in
    subst (λ (book : History). TurnFits book movement) (sym is) (turn_fits c.args.rows.now movement (subst IsGrown is c.in_ok-book.ensures.grown))
