use Rattle.std.proofs.Common.{◌≡◌, None, is_some, Option, sym, ap, ◌∙◌}
use Rattle.escrow_book.specs.declared.row.HoldRow.{HoldRow}
use Rattle.ledger_rows.specs.RowValues.{hold_in}
use Rattle.ledger_claims.specs.Payees.{key_parts, owned_by, owned_in}
use Rattle.ledger_claims.proofs.OwnedRows.{formed_by}
use Rattle.ledger_claims.proofs.owned.owned_in.Goals as goal

pub returns-in_default : goal.returns-in_default
returns-in_default c =
    let row = c.args.row.now in
    let none : None ≡ key_parts row.key = sym c.in_default.is ∙ c.key_parts.ensures ∙ ap key_parts c.as_slice.ensures in
    let told : None ≡ owned_in row = (λ i. owned_by (none i) (hold_in row.val)) in
    (told, ap (λ (o : Option HoldRow). is_some o) told ∙ formed_by row)
