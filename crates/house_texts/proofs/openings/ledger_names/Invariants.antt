use Rattle.std.proofs.Common.{◌≡◌, take}
use Rattle.house_texts.specs.Openings.{ledger_names}
use Rattle.house_texts.proofs.openings.ledger_names.Given as goal

abbrev pub invariant-loop-declaration : goal.invariant-loop-declaration
invariant-loop-declaration l = l.names.items ≡ ledger_names (take l.declaration-index l.declarations)
