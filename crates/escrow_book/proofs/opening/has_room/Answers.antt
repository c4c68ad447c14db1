use Rattle.std.proofs.Common.{arith}
use Rattle.std.proofs.lemmas.Grind.{common_steps}
use Rattle.escrow_book.proofs.OpeningRows.{total_with}
use Rattle.escrow_book.proofs.opening.has_room.Goals as goal

pub returns : goal.returns
returns c = rw (total_with c.args.front.now c.args.row.now) (grind (arith, common_steps))
