use Rattle.std.proofs.Common.{◌≡◌, take}
use Rattle.plain_script.specs.BoundNames.{opened_of}
use Rattle.plain_script.proofs.declarations.opened.Given as goal

abbrev pub invariant-loop-declaration : goal.invariant-loop-declaration
invariant-loop-declaration l = l.total ≡ opened_of (take l.declaration-index l.declarations) l.ledger l.asset
