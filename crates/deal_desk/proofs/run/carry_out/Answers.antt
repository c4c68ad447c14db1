use Rattle.deal_desk.proofs.Read.{read_and_told}
use Rattle.deal_desk.proofs.run.carry_out.Goals as goal

pub returns-in-Ok : goal.returns-in-Ok
returns-in-Ok g c = read_and_told c.args.command c.tell.result _ _ _ _ c.in-Ok.bytes.items c.deref.result.now c.deref.ensures.value c.in-Ok.ensures.read c.tell.ensures
