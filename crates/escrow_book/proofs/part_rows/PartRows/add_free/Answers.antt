use Rattle.std.proofs.Common.{arith}
use Rattle.escrow_book.specs.Summed.{AreSums}
use Rattle.escrow_book.specs.Taken.{base_taken}
use Rattle.escrow_book.proofs.Summing.{same_sums, free_summed}
use Rattle.escrow_book.proofs.part_rows.PartRows.add_free.Goals as goal

pub invariant_of-self-2 : goal.invariant_of-self-2
invariant_of-self-2 c =
    let room : AreSums c.make_room.new.self (base_taken c.args.self.now) = same_sums c.args.self.now.sums c.make_room.new.self (base_taken c.args.self.now) c.args.self.now.summed c.in_ok-make_room.ensures.same in
    record { summed = rw c.in_ok-push.ensures.items (free_summed c.make_room.new.self c.set_total.new.self (base_taken c.args.self.now) room (c.args.account.now, c.args.asset.now, c.args.amount) c.total_with_free-total.result c.total_with_free-total.ensures (omega arith) c.set_total.ensures) }
