use Rattle.std.proofs.Common.{◌∙◌}
use Rattle.ledger_rows.proofs.ReadValues.{act_is, whole_rest}
use Rattle.ledger_rows.proofs.entry.Entry.act_in.Goals as goal

pub returns : goal.returns
returns c =
    act_is c.args.bytes.now c.id_at.result c.u32_at.result c.from_vec.result c.if-bytes-lt37.false c.id_at.ensures c.u32_at.ensures (c.from_vec.ensures ∙ c.in_ok-message.ensures.items ∙ whole_rest 37 c.args.bytes.now)
