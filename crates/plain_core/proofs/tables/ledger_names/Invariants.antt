use Rattle.std.proofs.Common.{◌≡◌, map, take}
use Rattle.plain_core.proofs.tables.ledger_names.Given as goal

abbrev pub invariant-loop-ledger : goal.invariant-loop-ledger
invariant-loop-ledger l = l.names.items ≡ map (λ ledger. ledger.name) (take l.ledger-index l.ledgers)
