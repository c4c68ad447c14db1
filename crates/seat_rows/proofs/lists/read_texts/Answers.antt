use Rattle.std.proofs.Common.{◌≡◌, true, length, List, sym, ap, ◌∙◌, arith}
use Rattle.keeper_core.specs.declared.row.Row.{Row}
use Rattle.seat_rows.proofs.Listing.{text_taken}
use Rattle.seat_rows.proofs.lists.read_texts.Goals as goal

pub loop-row-preserved : goal.loop-row-preserved
loop-row-preserved c =
    let h = rw c.in-Some.is at c.next.ensures.steps in
    let pushed = rw c.in_ok-push.was at c.push.ensures.items in
    let one_less = ap (λ (rows : List Row). length rows) h.0 in
    record {
      parted = text_taken c.args.rows _ _ c.loop-row.texts.items c.push.new.self.items c.in-Some.row.key c.in-Some.row.val c.loop-row.invariant.parted h.0 (sym c.is_named.ensures ∙ c.if-not-is_named.false) pushed;
      left = omega (arith, h.1, one_less, c.loop-row.invariant.left);
    }
