use Rattle.std.proofs.Common.{◌≡◌, take}
use Rattle.plain_core.specs.Openings.{deal_names}
use Rattle.plain_core.proofs.tables.deal_names.Given as goal

abbrev pub invariant-loop-declaration : goal.invariant-loop-declaration
invariant-loop-declaration l = l.names.items ≡ deal_names (take l.declaration-index l.declarations)
