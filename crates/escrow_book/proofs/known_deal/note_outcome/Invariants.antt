use Rattle.std.proofs.Common.{◌≡◌, ◌++◌, map, take, drop}
use Rattle.escrow_book.specs.Kept.{with_outcome}
use Rattle.escrow_book.proofs.known_deal.note_outcome.Given as goal

abbrev pub invariant-loop-place : goal.invariant-loop-place
invariant-loop-place l = l.deals ≡ map (with_outcome l.deal l.outcome) (take l.place l.fn.deals) ++ drop l.place l.fn.deals
