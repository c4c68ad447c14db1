use Rattle.std.proofs.Common.{◌+◌, ◌≤◌, take, ap, ◌∙◌, arith}
use Rattle.std.specs.List.{sum_by}
use Rattle.escrow_book.specs.declared.entry.Entry.{Entry}
use Rattle.escrow_book.specs.Base.{carried_abort}
use Rattle.escrow_book.specs.History.{History, escrowed}
use Rattle.escrow_book.proofs.Reading.{all_changes, is_grown, escrows_room, sum_history}
use Rattle.escrow_book.proofs.book.Book.if_abort.Goals as goal

pub overflow_add-sum : goal.overflow_add-sum
overflow_add-sum c =
    let h : History = c.args.self.now in
    let room : (carried_abort h.carried c.args.deal.now c.args.party.now c.args.asset.now + sum_by (λ (entry : Entry). escrowed c.args.deal.now c.args.party.now c.args.asset.now entry.change) (take c.loop-entry.entry-index c.deref-entry-items.result.now)) + escrowed c.args.deal.now c.args.party.now c.args.asset.now c.entry-item.result.change ≤ 18446744073709551615 = escrows_room h c.deref-entry-items.result.now c.loop-entry.entry-index c.entry-item.result c.args.deal.now c.args.party.now c.args.asset.now (all_changes _ _ h c.self.view_is _ c.deref-entry-items.ensures.value) (is_grown _ h c.self.view_is c.self.invariant.grown) c.entry-item.is c.loop-entry-test.true in
    omega (arith, c.escrowed-sum.ensures)

pub returns : goal.returns
returns c = c.loop-entry.invariant ∙ ap (λ n. carried_abort c.args.self.now.carried c.args.deal.now c.args.party.now c.args.asset.now + n) (sum_history c.args.self.now c.deref-entry-items.result.now c.loop-entry.entry-index (escrowed c.args.deal.now c.args.party.now c.args.asset.now) (all_changes _ _ c.args.self.now c.self.view_is _ c.deref-entry-items.ensures.value) c.loop-entry-test.false)
