use Rattle.std.proofs.Common.{arith}
use Rattle.std.proofs.lemmas.Grind.{common_steps}
use Rattle.deal_desk.proofs.Taken.{read_to_limit, read_to_end, gave_piece}
use Rattle.deal_desk.proofs.reading.read_input.Goals as goal

pub returns-then-room-eq0-clause-read : goal.returns-then-room-eq0-clause-read
returns-then-room-eq0-clause-read g c = read_to_limit _ c.loop-piece.bytes.items _ c.loop-piece.invariant.1 (omega (arith, c.loop-piece.invariant.0, c.if-room-eq0.true, c.min-room.ensures, c.len.ensures))

pub returns-then-n-eq0-clause-read : goal.returns-then-n-eq0-clause-read
returns-then-n-eq0-clause-read g c = read_to_end _ c.loop-piece.bytes.items _ _ c.in-Ok.n _ c.loop-piece.invariant.1 c.loop-piece.invariant.0 (c.in-Ok.ensures.end c.if-n-eq0.true (grind (arith, common_steps))) c.in-Ok.ensures.took.left c.if-n-eq0.true

pub returns-then-is_err-clause-front : goal.returns-then-is_err-clause-front
returns-then-is_err-clause-front g c = gave_piece _ c.loop-piece.bytes.items _ _ c.in-Ok.n _ c.loop-piece.invariant.1 c.in-Ok.ensures.took.left (grind (arith, common_steps))
