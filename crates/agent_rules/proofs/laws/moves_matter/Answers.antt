use Rattle.agent_rules.specs.Loans.{return_entry}
use Rattle.agent_rules.proofs.Lending.{loan_seen, loan_unmoved, return_next, loan_lost}
use Rattle.agent_rules.proofs.laws.moves_matter.Goals as goal

pub returns-clause-seen : goal.returns-clause-seen
returns-clause-seen c = loan_seen

pub returns-clause-unmoved : goal.returns-clause-unmoved
returns-clause-unmoved c = loan_unmoved

pub returns-clause-accepted : goal.returns-clause-accepted
returns-clause-accepted c = λ deal ledger asset amount rows entries q d s h.
    c.histories_grow.ensures ledger rows entries (return_entry deal ledger asset amount q)
    (c.compliant_front.ensures.accepted deal _ ledger rows entries d s h.front) (return_next deal ledger asset amount rows entries q d s h)

pub returns-clause-lost : goal.returns-clause-lost
returns-clause-lost c = loan_lost
