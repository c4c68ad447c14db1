use Rattle.compliant_deals.proofs.Fronts.{front_accepted, front_running, front_put_up, front_owned, front_moved}
use Rattle.compliant_deals.proofs.laws.compliant_front.Goals as goal

pub returns-clause-accepted : goal.returns-clause-accepted
returns-clause-accepted c = front_accepted

pub returns-clause-running : goal.returns-clause-running
returns-clause-running c = front_running

pub returns-clause-put_up : goal.returns-clause-put_up
returns-clause-put_up c = λ deal front ledger rows entries party asset d s h lt. front_put_up deal front ledger rows entries d s h party asset lt

pub returns-clause-owned : goal.returns-clause-owned
returns-clause-owned c = λ deal front ledger rows entries party asset d s h lt. front_owned deal front ledger rows entries d s h party asset lt

pub returns-clause-moved : goal.returns-clause-moved
returns-clause-moved c = λ deal front ledger rows entries party d s h lt. front_moved deal front ledger rows entries d s h party lt
