use Rattle.std.proofs.Common.{◌≡◌, ◌++◌, drop}
use Rattle.ledger_claims.specs.Settling.{payout_changes}
use Rattle.ledger_claims.proofs.settling.put_payouts.Given as goal

abbrev pub invariant-loop-payee : goal.invariant-loop-payee
invariant-loop-payee l = l.batch ++ payout_changes l.book (drop l.payee-index l.payees) ≡ l.initial.batch ++ payout_changes l.book l.payees
