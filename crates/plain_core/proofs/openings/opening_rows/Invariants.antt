use Rattle.std.proofs.Common.{◌≡◌, take}
use Rattle.plain_script.specs.OpeningRows.{rows_of}
use Rattle.plain_core.proofs.openings.opening_rows.Given as goal

abbrev pub invariant-loop-declaration : goal.invariant-loop-declaration
invariant-loop-declaration l = l.rows.items ≡ rows_of (take l.declaration-index l.declarations) l.ledger
