use Rattle.std.proofs.Common.{◌≡◌, None, Some, drop, sym, ap, ◌∙◌}
use Rattle.ledger_rows.specs.RowKeys.{first_id, name_in}
use Rattle.ledger_rows.proofs.ReadValues.{whole_rest}
use Rattle.ledger_claims.proofs.OwnedRows.{no_parts, unnamed_parts, named_parts}
use Rattle.ledger_claims.proofs.owned.key_parts.Goals as goal

pub returns-then-key-le64 : goal.returns-then-key-le64
returns-then-key-le64 c = sym (no_parts c.args.key.now c.if-key-le64.true)

pub returns-in_err-asset : goal.returns-in_err-asset
returns-in_err-asset c =
    let key = c.args.key.now in
    let none : name_in (drop 64 key) ≡ None = ap name_in (sym (whole_rest 64 key)) ∙ sym (rw c.in_err-asset.was at c.name_in.ensures) in
    rw c.from_residual.ensures (sym (unnamed_parts key c.if-key-le64.false none))

pub returns : goal.returns
returns c =
    let key = c.args.key.now in
    let asset = c.in_ok-asset.asset in
    let some : name_in (drop 64 key) ≡ Some asset = ap name_in (sym (whole_rest 64 key)) ∙ sym (rw c.in_ok-asset.was at c.name_in.ensures) in
    let account = c.first_id-2.ensures ∙ ap first_id (whole_rest 32 key) in
    (λ i. Some (c.first_id.ensures i, (account i, asset))) ∙ sym (named_parts key asset c.if-key-le64.false some)
