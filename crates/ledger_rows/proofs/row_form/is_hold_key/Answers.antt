use Rattle.std.proofs.Common.{◌∙◌, sym, ap, length}
use Rattle.std.proofs.lemmas.Bool.{le-ltb}
use Rattle.ledger_rows.specs.RowKeys.{is_free_key}
use Rattle.ledger_rows.proofs.ReadValues.{whole_rest}
use Rattle.ledger_rows.proofs.RowForms.{hold_key_by, short_hold_key}
use Rattle.ledger_rows.proofs.row_form.is_hold_key.Goals as goal

pub returns-then-key-gt32 : goal.returns-then-key-gt32
returns-then-key-gt32 c = c.is_free_key.ensures ∙ ap is_free_key (whole_rest 32 c.args.key.now) ∙ hold_key_by c.args.key.now

pub returns-else-key-gt32 : goal.returns-else-key-gt32
returns-else-key-gt32 c = le-ltb 32 (length c.args.key.now) c.if-key-gt32.false ∙ sym (short_hold_key c.args.key.now c.if-key-gt32.false)
