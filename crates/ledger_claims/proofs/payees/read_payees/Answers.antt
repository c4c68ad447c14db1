use Rattle.std.proofs.Common.{rules, ◌≡◌, ◌+◌, List, length, drop, Result, Err, sym, subst, arith}
use Rattle.escrow_book.specs.declared.row.HoldRow.{HoldRow}
use Rattle.keeper_core.specs.declared.store_fault.StoreFault.{StoreFault}
use Rattle.keeper_core.specs.declared.store_fault.StoreFault.TheVariants as store
use Rattle.ledger_rows.specs.RowReading.{Reads, LacksForm}
use Rattle.ledger_claims.specs.declared.payees.Payee.{Payee}
use Rattle.ledger_claims.specs.Payees.{payees_said, payees_refusal}
use Rattle.ledger_claims.proofs.Looping.{rest_is}
use Rattle.ledger_claims.proofs.PayeesRead.{ReadSoFar, one_read, one_unread, read_starved}
use Rattle.ledger_claims.proofs.payees.read_payees.Goals as goal

pub returns-in_err-free : goal.returns-in_err-free
returns-in_err-free g c =
    let owned = c.args.owned.now in
    let place = c.loop-hold.hold-index in
    let hold = c.hold-item.result in
    let rest = drop (place + 1) owned in
    let payees = c.loop-hold.payees.items in
    let before = g.K.Keeper.known c.args.keeper.now in
    let mid = g.K.Keeper.known c.loop-hold.keeper in
    let after = g.K.Keeper.known c.read_free.new.keeper in
    let so_far = subst (λ (left : List HoldRow). ReadSoFar owned left payees place before mid) (rest_is owned place hold c.loop-hold-test.true c.hold-item.is) c.loop-hold.invariant in
    let fault = c.in_err-free.field-0.0 in
    let is : c.from_residual.result ≡ Err fault = search rules in
    subst (λ (r : Result (List Payee) StoreFault). Reads (length owned) (payees_said owned) (payees_refusal owned) LacksForm r before after) (sym is)
    (one_unread owned hold rest payees place before mid after so_far fault c.loop-hold-test.true (rw c.in_err-free.was at c.read_free.ensures))

pub returns-in_err-push : goal.returns-in_err-push
returns-in_err-push g c =
    let owned = c.args.owned.now in
    let place = c.loop-hold.hold-index in
    let hold = c.hold-item.result in
    let rest = drop (place + 1) owned in
    let payees = c.loop-hold.payees.items in
    let before = g.K.Keeper.known c.args.keeper.now in
    let mid = g.K.Keeper.known c.loop-hold.keeper in
    let after = g.K.Keeper.known c.read_free.new.keeper in
    let so_far = subst (λ (left : List HoldRow). ReadSoFar owned left payees place before mid) (rest_is owned place hold c.loop-hold-test.true c.hold-item.is) c.loop-hold.invariant in
    let free = c.in_ok-free.free in
    let read = one_read owned hold rest payees place before mid after so_far free (rw c.in_ok-free.was at c.read_free.ensures) in
    let is : c.from_residual-in_err-push.result ≡ Err store.NoMemory = search rules in
    subst (λ (r : Result (List Payee) StoreFault). Reads (length owned) (payees_said owned) (payees_refusal owned) LacksForm r before after) (sym is)
    (read_starved owned rest _ (place + 1) before after read (omega (arith, c.loop-hold-test.true)))

pub loop-hold-preserved : goal.loop-hold-preserved
loop-hold-preserved g c =
    let owned = c.args.owned.now in
    let place = c.loop-hold.hold-index in
    let hold = c.hold-item.result in
    let rest = drop (place + 1) owned in
    let payees = c.loop-hold.payees.items in
    let before = g.K.Keeper.known c.args.keeper.now in
    let mid = g.K.Keeper.known c.loop-hold.keeper in
    let after = g.K.Keeper.known c.read_free.new.keeper in
    let so_far = subst (λ (left : List HoldRow). ReadSoFar owned left payees place before mid) (rest_is owned place hold c.loop-hold-test.true c.hold-item.is) c.loop-hold.invariant in
    let free = c.in_ok-free.free in
    subst (λ (items : List Payee). ReadSoFar owned rest items (place + 1) before after) (sym c.in_ok-push.ensures.items)
    (one_read owned hold rest payees place before mid after so_far free (rw c.in_ok-free.was at c.read_free.ensures))
