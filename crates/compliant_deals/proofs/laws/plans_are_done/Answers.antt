use Rattle.compliant_deals.proofs.Planned.{acts_planned, escrow_is_done, transfer_is_done}
use Rattle.compliant_deals.proofs.laws.plans_are_done.Goals as goal

pub returns-clause-planned : goal.returns-clause-planned
returns-clause-planned c = acts_planned

pub returns-clause-escrows : goal.returns-clause-escrows
returns-clause-escrows c = λ deal ledger registrant party asset amount less there. escrow_is_done deal ledger registrant party asset amount less there

pub returns-clause-transfers : goal.returns-clause-transfers
returns-clause-transfers c = λ deal ledger registrant party turn to asset amount there. transfer_is_done party ledger turn to asset amount deal registrant there
