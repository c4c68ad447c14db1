use Rattle.std.proofs.Common.{map, string_bytes}
use Rattle.deal_desk.proofs.Promise.{carried_out_keeps}
use Rattle.deal_desk.proofs.Read.{usage_told}
use Rattle.deal_desk.proofs.run.run.Goals as goal

pub returns-in_default-clause-ended : goal.returns-in_default-clause-ended
returns-in_default-clause-ended g c = (c.say.result, c.status.ensures, usage_told (map string_bytes c.args.words.now) c.say.result _ _ _ c.as_bytes.result.now c.in_default.ensures c.as_bytes.ensures.value c.say.ensures)

pub returns-clause-one_log : goal.returns-clause-one_log
returns-clause-one_log g c = carried_out_keeps c.in-Some.command c.carry_out.result c.status-2.result (map string_bytes c.args.words.now) _ _ _ _ c.in-Some.ensures c.status-2.ensures c.carry_out.ensures
