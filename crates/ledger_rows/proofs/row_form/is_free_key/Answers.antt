use Rattle.std.proofs.Common.{◌∙◌, sym, ap, length, Option, ℕ, List, is_some}
use Rattle.std.proofs.lemmas.Bool.{le-ltb}
use Rattle.ledger_rows.specs.RowKeys.{name_in}
use Rattle.ledger_rows.proofs.ReadValues.{whole_rest}
use Rattle.ledger_rows.proofs.RowForms.{free_key_by, short_free_key}
use Rattle.ledger_rows.proofs.row_form.is_free_key.Goals as goal

pub returns-then-key-gt32 : goal.returns-then-key-gt32
returns-then-key-gt32 c =
    c.is_some.ensures ∙ ap (λ (o : Option (List ℕ)). is_some o) (c.name_in.ensures ∙ ap name_in (whole_rest 32 c.args.key.now)) ∙ free_key_by c.args.key.now c.if-key-gt32.true

pub returns-else-key-gt32 : goal.returns-else-key-gt32
returns-else-key-gt32 c = le-ltb 32 (length c.args.key.now) c.if-key-gt32.false ∙ sym (short_free_key c.args.key.now c.if-key-gt32.false)
