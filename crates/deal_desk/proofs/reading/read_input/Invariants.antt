use Rattle.std.proofs.Common.{◌≡◌, ◌≤◌, ◌-◌, length}
use Rattle.deal_desk.specs.Inputs.{most_read}
use Rattle.deal_desk.proofs.Taken.{Taken}
use Rattle.deal_desk.proofs.reading.read_input.Given as goal

abbrev pub invariant-loop-piece : goal.invariant-loop-piece
invariant-loop-piece g l =
    (length l.bytes.items ≤ most_read)
    × Taken (g.S.Outside.seen l.fn.input).left l.bytes.items (g.S.Outside.seen l.input).left
    × ((g.S.Outside.seen l.input).faults ≡ (g.S.Outside.seen l.fn.input).faults)

abbrev pub decreases-loop-piece : goal.decreases-loop-piece
decreases-loop-piece g l = most_read - length l.bytes.items
