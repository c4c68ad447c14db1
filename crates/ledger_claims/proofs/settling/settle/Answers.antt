use Rattle.std.proofs.Common.{rules, ◌≡◌, Result, Err, sym, subst}
use Rattle.keeper_core.specs.declared.store_fault.StoreFault.{StoreFault}
use Rattle.keeper_core.specs.StoreFaults.{store_fault_of}
use Rattle.ledger_claims.specs.Settling.{SettlesByRows}
use Rattle.ledger_claims.proofs.SettleCalls.{payees_unread, settling_refused, not_kept}
use Rattle.ledger_claims.proofs.settling.settle.Goals as goal

pub returns-in_err-payees : goal.returns-in_err-payees
returns-in_err-payees g c =
    let number = c.args.number in
    let deal = c.args.deal.now in
    let found = c.args.found in
    let outcome = c.args.outcome in
    let before = g.K.Keeper.known c.args.keeper.now in
    let mid = g.K.Keeper.known c.payees_of.new.keeper in
    let fault = c.in_err-payees.field-0.0 in
    let is : c.from_residual.result ≡ Err fault = search rules in
    subst (λ (r : Result (Unit {0}) StoreFault). SettlesByRows number deal found outcome r before mid) (sym is)
    (payees_unread number deal found outcome fault before mid (rw c.in_err-payees.was at c.payees_of.ensures.asks) (rw c.in_err-payees.was at c.payees_of.ensures.cause))

pub returns-in_err-batch : goal.returns-in_err-batch
returns-in_err-batch g c =
    let number = c.args.number in
    let deal = c.args.deal.now in
    let found = c.args.found in
    let outcome = c.args.outcome in
    let before = g.K.Keeper.known c.args.keeper.now in
    let mid = g.K.Keeper.known c.payees_of.new.keeper in
    let fault = c.in_err-batch.field-0.0 in
    let is : c.from_residual-in_err-batch.result ≡ Err fault = search rules in
    subst (λ (r : Result (Unit {0}) StoreFault). SettlesByRows number deal found outcome r before mid) (sym is)
    (settling_refused number deal found outcome c.in_ok-payees.payees fault before mid (rw c.in_ok-payees.was at c.payees_of.ensures.asks) (rw (c.in_err-batch.was, c.as_slice.ensures) at c.changes_for.ensures))

pub returns-in_err-commit : goal.returns-in_err-commit
returns-in_err-commit g c =
    let number = c.args.number in
    let deal = c.args.deal.now in
    let found = c.args.found in
    let outcome = c.args.outcome in
    let before = g.K.Keeper.known c.args.keeper.now in
    let mid = g.K.Keeper.known c.payees_of.new.keeper in
    let after = g.K.Keeper.known c.commit.new.self in
    let fault = c.in_err-commit.field-0.0 in
    let made = rw (c.in_ok-batch.was, c.as_slice.ensures) at c.changes_for.ensures in
    let is : c.from_residual-in_err-commit.result ≡ Err (store_fault_of fault) = search rules in
    subst (λ (r : Result (Unit {0}) StoreFault). SettlesByRows number deal found outcome r before after) (sym is)
    (not_kept number deal found outcome c.in_ok-payees.payees c.in_ok-batch.batch before mid after (rw c.in_ok-payees.was at c.payees_of.ensures.asks) made.0 made.1 fault
    (rw c.in_err-commit.was at c.commit.ensures.leaves) c.commit.ensures.looked)
