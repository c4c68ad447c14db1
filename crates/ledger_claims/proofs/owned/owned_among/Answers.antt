use Rattle.std.proofs.Common.{◌≡◌, Some, true, false, is_some, Option, sym, ap, ◌∙◌}
use Rattle.escrow_book.specs.declared.row.HoldRow.{HoldRow}
use Rattle.ledger_rows.specs.RowKeys.{hold_tab}
use Rattle.ledger_rows.specs.RowReading.{is_formed}
use Rattle.ledger_claims.specs.Payees.{owned_in}
use Rattle.ledger_claims.proofs.Looping.{formed_on, owned_on}
use Rattle.ledger_claims.proofs.owned.owned_among.Goals as goal
use Rattle.ledger_claims.proofs.owned.owned_among.Goals.{then-eq+in_ok-push, else-eq}

pub loop-row-preserved : goal.loop-row-preserved
loop-row-preserved c =
    let deal = c.args.deal.now in
    let rows = c.args.rows.now in
    let row = c.row-item.result in
    let hold = c.in-Some.hold in
    let told : owned_in row ≡ Some hold = sym c.in_ok-hold.ensures.0 ∙ c.in-Some.is in
    let formed : is_formed hold_tab row ≡ true = sym c.in_ok-hold.ensures.1 ∙ ap (λ (o : Option HoldRow). is_some o) c.in-Some.is in
    record {
      formed = c.loop-row.invariant.formed ∙ formed_on deal rows c.loop-row.row-index row c.loop-row-test.true c.row-item.is formed;
      owned = elim c.if-eq.branch [
        | then-eq+in_ok-push w ↦ owned_on deal rows c.loop-row.row-index row c.loop-row-test.true c.row-item.is c.loop-row.owned.items c.if-eq.owned.items hold true told w.if-eq.ensures ((λ i. (w.owned-is i).items) ∙ w.in_ok-push.ensures.items) c.loop-row.invariant.owned
        | else-eq w ↦ owned_on deal rows c.loop-row.row-index row c.loop-row-test.true c.row-item.is c.loop-row.owned.items c.if-eq.owned.items hold false told w.if-eq.ensures (λ i. (w.owned-is i).items) c.loop-row.invariant.owned
      ];
    }
