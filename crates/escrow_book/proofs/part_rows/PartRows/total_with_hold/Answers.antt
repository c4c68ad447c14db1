use Rattle.std.proofs.Common.{◌+◌, ap, sym, ◌∙◌}
use Rattle.escrow_book.specs.Noted.{total_noted, saturated}
use Rattle.escrow_book.specs.Taken.{base_taken}
use Rattle.escrow_book.proofs.Summing.{open_total, closed_total}
use Rattle.escrow_book.proofs.part_rows.PartRows.total_with_hold.Goals as goal

pub returns-then-is_open : goal.returns-then-is_open
returns-then-is_open c =
    c.saturating_add.ensures ∙ (ap (λ n. saturated (n + c.rise.result)) c.total-total.ensures ∙ (ap (λ n. saturated (total_noted c.args.self.now.sums c.args.hold.now.asset + n)) c.rise.ensures ∙ open_total c.args.self.now.sums (base_taken c.args.self.now) c.args.self.now.summed c.args.hold.now (sym c.is_open.ensures ∙ c.if-is_open.true)))

pub returns-else-is_open : goal.returns-else-is_open
returns-else-is_open c =
    c.total-total.ensures ∙ closed_total c.args.self.now.sums (base_taken c.args.self.now) c.args.self.now.summed c.args.hold.now (sym c.is_open.ensures ∙ c.if-is_open.false)
