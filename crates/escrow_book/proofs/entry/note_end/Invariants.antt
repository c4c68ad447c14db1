use Rattle.std.proofs.Common.{◌≡◌, ◌++◌, map, take, drop}
use Rattle.escrow_book.specs.Kept.{with_end}
use Rattle.escrow_book.proofs.entry.note_end.Given as goal

abbrev pub invariant-loop-place : goal.invariant-loop-place
invariant-loop-place l = l.entries ≡ map (with_end l.deal l.outcome) (take l.place l.fn.entries) ++ drop l.place l.fn.entries
