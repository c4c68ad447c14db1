use Rattle.std.proofs.Common.{List, length, subst}
use Rattle.escrow_book.specs.declared.row.HoldRow.{HoldRow}
use Rattle.ledger_rows.specs.RowReading.{Reads, LacksForm}
use Rattle.ledger_claims.specs.Payees.{payees_said, payees_refusal}
use Rattle.ledger_claims.proofs.PayeesRead.{payees_asked}
use Rattle.ledger_claims.proofs.payees.payees_of.Goals as goal

pub returns-clause-asks : goal.returns-clause-asks
returns-clause-asks g c =
    let mid = g.K.Keeper.known c.scan_owned.new.keeper in
    let after = g.K.Keeper.known c.read_payees.new.keeper in
    payees_asked c.args.deal.now c.in_ok-owned.owned (g.K.Keeper.known c.args.keeper.now) mid after (rw c.in_ok-owned.was at c.scan_owned.ensures.asks) c.read_payees.result
    (subst (λ (owned : List HoldRow). Reads (length owned) (payees_said owned) (payees_refusal owned) LacksForm c.read_payees.result mid after) c.as_slice.ensures c.read_payees.ensures)
