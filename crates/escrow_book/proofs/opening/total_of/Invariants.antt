use Rattle.std.proofs.Common.{◌≡◌, min, take}
use Rattle.std.specs.List.{sum_by}
use Rattle.escrow_book.specs.Opening.{asset_amount}
use Rattle.escrow_book.proofs.opening.total_of.Given as goal

abbrev pub invariant-loop-row : goal.invariant-loop-row
invariant-loop-row l = l.sum ≡ min (sum_by (asset_amount l.asset) (take l.row-index l.rows)) 18446744073709551615
