use Rattle.std.proofs.Common.{◌∙◌, sym, ap}
use Rattle.ledger_rows.specs.Scanning.{amount_in}
use Rattle.ledger_rows.proofs.HeldRows.{lists_one}
use Rattle.ledger_rows.proofs.held_rows.held_in.Goals as goal

pub returns : goal.returns
returns c =
    let behind = c.in_ok-asset.ensures in
    lists_one c.args.front.now c.args.row.now c.in_ok-asset.asset c.amount_in-amount.result behind.0 (sym c.as_slice.ensures ∙ behind.1) (c.amount_in-amount.ensures ∙ ap amount_in c.as_slice-2.ensures) c.if-amount-eq0.false
