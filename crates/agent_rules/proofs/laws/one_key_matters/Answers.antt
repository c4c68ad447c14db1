use Rattle.agent_rules.proofs.Escrowing.{twice_accepted, twice_planned, twice_put_up}
use Rattle.agent_rules.proofs.laws.one_key_matters.Goals as goal

pub returns-clause-accepted : goal.returns-clause-accepted
returns-clause-accepted c = λ deal party ledger asset rows. twice_accepted deal party ledger asset rows

pub returns-clause-planned : goal.returns-clause-planned
returns-clause-planned c = λ deal party ledger asset rows. twice_planned deal party ledger asset rows

pub returns-clause-put_up : goal.returns-clause-put_up
returns-clause-put_up c = λ deal party ledger asset rows. twice_put_up deal party ledger asset rows
