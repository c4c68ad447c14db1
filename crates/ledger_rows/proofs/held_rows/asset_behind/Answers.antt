use Rattle.ledger_rows.proofs.HeldRows.{no_front, asset_found}
use Rattle.ledger_rows.proofs.held_rows.asset_behind.Goals as goal

pub returns-in_err-strip_prefix : goal.returns-in_err-strip_prefix
returns-in_err-strip_prefix c =
    let apart = rw c.in_err-strip_prefix.was at c.strip_prefix.ensures.cases in
    rw c.from_residual.ensures (λ asset named is. no_front c.args.key.now c.args.front.now asset apart is)

pub returns : goal.returns
returns c =
    let cases = rw c.in_ok-strip_prefix.was at c.strip_prefix.ensures.cases in
    rw c.name_in.ensures (asset_found c.args.key.now c.args.front.now c.in_ok-strip_prefix.field-0.now cases.0 cases.1)
