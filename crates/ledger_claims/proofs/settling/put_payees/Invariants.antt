use Rattle.std.proofs.Common.{◌≡◌, ◌++◌, drop}
use Rattle.ledger_claims.specs.Settling.{payee_rows}
use Rattle.ledger_claims.proofs.settling.put_payees.Given as goal

abbrev pub invariant-loop-payee : goal.invariant-loop-payee
invariant-loop-payee l = l.rows.items ++ payee_rows (drop l.payee-index l.payees) ≡ l.initial.rows.items ++ payee_rows l.payees
