use Rattle.std.proofs.Common.{◌+◌, ◌≤◌, take, ap, ◌∙◌, arith}
use Rattle.std.specs.List.{sum_by}
use Rattle.dh_base.specs.Amounts.{greatest_amount}
use Rattle.escrow_book.specs.Opening.{row_amount}
use Rattle.escrow_book.specs.History.{History}
use Rattle.escrow_book.proofs.Reading.{is_grown, rows_room, sum_all}
use Rattle.escrow_book.proofs.book.Book.opening.Goals as goal

pub overflow_add-sum : goal.overflow_add-sum
overflow_add-sum c =
    let h : History = c.args.self.now in
    let room : sum_by (row_amount c.args.account.now c.args.asset.now) (take c.loop-row.row-index c.deref-row-items.result.now) + row_amount c.args.account.now c.args.asset.now c.row-item.result ≤ greatest_amount = rows_room h c.deref-row-items.result.now c.loop-row.row-index c.row-item.result c.args.account.now c.args.asset.now (c.deref-row-items.ensures.value ∙ ap (λ (i : History). i.opening) c.self.view_is) (is_grown _ h c.self.view_is c.self.invariant.grown) c.row-item.is c.loop-row-test.true in
    omega (arith, c.row_amount-sum.ensures)

pub returns : goal.returns
returns c =
    c.loop-row.invariant ∙ (sum_all (row_amount c.args.account.now c.args.asset.now) c.deref-row-items.result.now c.loop-row.row-index c.loop-row-test.false ∙ ap (sum_by (row_amount c.args.account.now c.args.asset.now)) (c.deref-row-items.ensures.value ∙ ap (λ (i : History). i.opening) c.self.view_is))
