use Rattle.std.proofs.Common.{◌+◌, ap, ◌∙◌}
use Rattle.escrow_book.specs.Noted.{saturated}
use Rattle.escrow_book.specs.Taken.{base_taken}
use Rattle.escrow_book.proofs.Summing.{free_total}
use Rattle.escrow_book.proofs.part_rows.PartRows.total_with_free.Goals as goal

pub returns : goal.returns
returns c =
    c.saturating_add.ensures ∙ (ap (λ n. saturated (n + c.args.row.now.2)) c.total.ensures ∙ free_total c.args.self.now.sums (base_taken c.args.self.now) c.args.self.now.summed c.args.row.now)
