use Rattle.deal_desk.specs.declared.command.Command.TheVariants.{Clear, Rehearse}
use Rattle.deal_desk.proofs.OneAnswer.{given_is_the}
use Rattle.deal_desk.proofs.answering.answer.Goals as goal

pub returns-in-Clear : goal.returns-in-Clear
returns-in-Clear c = rw c.in-Clear.is (given_is_the Clear c.args.input.now c.clear.result c.clear.ensures)

pub returns-in-Rehearse : goal.returns-in-Rehearse
returns-in-Rehearse c = rw c.in-Rehearse.is (given_is_the Rehearse c.args.input.now c.rehearse.result c.rehearse.ensures)
