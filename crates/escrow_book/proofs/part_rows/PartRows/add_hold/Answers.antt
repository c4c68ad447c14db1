use Rattle.std.proofs.Common.{◌≡◌, true, is_some, sym, ◌∙◌, arith}
use Rattle.escrow_book.specs.Base.{find_deal}
use Rattle.escrow_book.specs.Summed.{AreSums}
use Rattle.escrow_book.specs.Taken.{base_taken}
use Rattle.escrow_book.proofs.Rows.{among_some}
use Rattle.escrow_book.proofs.Summing.{same_sums, hold_summed}
use Rattle.escrow_book.proofs.part_rows.PartRows.add_hold.Goals as goal

pub invariant_of-self-2 : goal.invariant_of-self-2
invariant_of-self-2 c =
    let room : AreSums c.make_hold_room.new.self (base_taken c.args.self.now) = same_sums c.args.self.now.sums c.make_hold_room.new.self (base_taken c.args.self.now) c.args.self.now.summed c.in_ok-make_hold_room.ensures.same in
    let there : is_some (find_deal c.args.self.now.deals.items c.args.hold.deal) ≡ true = among_some c.args.hold.account (find_deal c.args.self.now.deals.items c.args.hold.deal) (sym c.is_party.ensures ∙ c.if-not-is_party.false) in
    record { summed = rw c.in_ok-push.ensures.items (hold_summed c.make_hold_room.new.self c.note_hold.new.self (base_taken c.args.self.now) room c.args.hold c.total_with_hold-total.result there c.total_with_hold-total.ensures (omega arith) c.note_hold.ensures) }
