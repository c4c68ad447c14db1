use Rattle.clear_core.proofs.Escrowed.{escrowed_is_need, need_is_escrowed}
use Rattle.clear_core.proofs.Totals.{plan_total}
use Rattle.clear_core.proofs.laws.escrowed_needs.Goals as goal

pub returns-clause-total : goal.returns-clause-total
returns-clause-total c = plan_total

pub returns-clause-each : goal.returns-clause-each
returns-clause-each c steps party ledger asset amount = (escrowed_is_need steps party ledger asset amount, need_is_escrowed steps party ledger asset amount)
