use Rattle.ledger_rows.proofs.PaymentsStand.{payment_stands}
use Rattle.ledger_rows.proofs.laws.payment_stands.Goals as goal

pub returns : goal.returns
returns c =
    λ tables opening entries from q message house ledger to asset amount stands reached new reads wide named few none.
    payment_stands tables opening entries from q message house ledger to asset amount stands reached new reads wide named few none
