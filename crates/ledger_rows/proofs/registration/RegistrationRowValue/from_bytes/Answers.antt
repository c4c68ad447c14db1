use Rattle.std.proofs.Common.{◌∙◌, sym}
use Rattle.ledger_rows.proofs.ReadValues.{registration_is, whole_rest}
use Rattle.ledger_rows.proofs.registration.RegistrationRowValue.from_bytes.Goals as goal

pub returns : goal.returns
returns c =
    registration_is c.args.bytes.now c.id_at.result c.in-Some.settled c.from_vec.result c.if-bytes-lt33.false c.id_at.ensures (sym c.settled_in.ensures ∙ c.in-Some.is) (c.from_vec.ensures ∙ c.in_ok-text.ensures.items ∙ whole_rest 33 c.args.bytes.now)
