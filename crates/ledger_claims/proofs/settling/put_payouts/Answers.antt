use Rattle.ledger_claims.proofs.Looping.{payout_on}
use Rattle.ledger_claims.proofs.settling.put_payouts.Goals as goal

pub loop-payee-preserved : goal.loop-payee-preserved
loop-payee-preserved c =
    payout_on c.args.book.now c.args.payees.now c.loop-payee.payee-index c.payee-item.result c.loop-payee-test.true c.payee-item.is
    c.loop-payee.batch c.put_free.new.batch _ c.free-free.result c.free-free.ensures c.in_ok-put_free.ensures c.loop-payee.invariant
