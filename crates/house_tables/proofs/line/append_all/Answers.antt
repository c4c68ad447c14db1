use Rattle.std.proofs.Common.{ℕ, List, ◌++◌, string_bytes, ap, ◌∙◌, arith}
use Rattle.house_tables.proofs.Joining.{joins_more}
use Rattle.house_tables.proofs.line.append_all.Goals as goal

pub loop-line-preserved : goal.loop-line-preserved
loop-line-preserved c =
    joins_more (string_bytes c.args.out.now) c.args.lines.now c.loop-line.line-index c.line-item.result (string_bytes c.loop-line.out) (string_bytes c.push_str.new.self) (omega arith) c.line-item.is c.loop-line.invariant (c.in_ok-push_str.ensures.bytes ∙ ap (λ (t : List ℕ). string_bytes c.loop-line.out ++ t) c.as_str.ensures)
