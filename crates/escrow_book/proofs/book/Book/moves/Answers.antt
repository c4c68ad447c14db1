use Rattle.std.proofs.Common.{◌+◌, ◌≤◌, take, sym, ◌∙◌, arith}
use Rattle.std.specs.List.{count_by}
use Rattle.escrow_book.specs.declared.entry.Entry.{Entry}
use Rattle.escrow_book.specs.Base.{carried_moves, greatest_turn}
use Rattle.escrow_book.specs.History.{History, is_move}
use Rattle.escrow_book.proofs.Reading.{all_changes, is_grown, moves_room, moves_read, count_on_yes, count_on_no}
use Rattle.escrow_book.proofs.book.Book.moves.Goals as goal
use Rattle.escrow_book.proofs.book.Book.moves.Goals.{then-is_move, else-is_move}

pub overflow_add-count : goal.overflow_add-count
overflow_add-count c =
    let h : History = c.args.self.now in
    let room : (carried_moves h.carried c.args.deal.now c.args.party.now + count_by (λ (entry : Entry). is_move c.args.deal.now c.args.party.now entry.change) (take c.loop-entry.entry-index c.deref-entry-items.result.now)) + 1 ≤ greatest_turn = moves_room h c.deref-entry-items.result.now c.loop-entry.entry-index c.entry-item.result c.args.deal.now c.args.party.now (all_changes _ _ h c.self.view_is _ c.deref-entry-items.ensures.value) (is_grown _ h c.self.view_is c.self.invariant.grown) c.entry-item.is c.loop-entry-test.true (sym c.is_move.ensures ∙ c.if-is_move.true) in
    omega arith

pub loop-entry-preserved : goal.loop-entry-preserved
loop-entry-preserved c =
    elim c.if-is_move.branch [
      | then-is_move w ↦ let more = count_on_yes c.deref-entry-items.result.now c.loop-entry.entry-index c.entry-item.result c.entry-item.is c.loop-entry-test.true (λ (entry : Entry). is_move c.args.deal.now c.args.party.now entry.change) (sym c.is_move.ensures ∙ w.if-is_move.true) in omega (arith, w.count-is, c.loop-entry.invariant, more)
      | else-is_move w ↦ let same = count_on_no c.deref-entry-items.result.now c.loop-entry.entry-index c.entry-item.result c.entry-item.is c.loop-entry-test.true (λ (entry : Entry). is_move c.args.deal.now c.args.party.now entry.change) (sym c.is_move.ensures ∙ w.if-is_move.false) in omega (arith, w.count-is, c.loop-entry.invariant, same)
    ]

pub returns : goal.returns
returns c = c.loop-entry.invariant ∙ moves_read c.args.self.now c.deref-entry-items.result.now c.loop-entry.entry-index c.args.deal.now c.args.party.now (all_changes _ _ c.args.self.now c.self.view_is _ c.deref-entry-items.ensures.value) c.loop-entry-test.false
