use Rattle.payoff.specs.Moments.{after_all}
use Rattle.payoff.proofs.Kept.{kept_all}
use Rattle.payoff.proofs.Settlements.{agree, by_log}
use Rattle.payoff.proofs.laws.agreement.Goals as goal

pub returns-clause-log : goal.returns-clause-log
returns-clause-log c = λ w run certified name deal outcome before log o steps given has s longest.
    by_log c.outcome_stays.ensures (after_all run w) certified has (kept_all w run o steps given) name deal outcome before log s longest

pub returns-clause-same : goal.returns-clause-same
returns-clause-same c = λ w run certified name other deal outcome second before earlier o steps given has s t.
    agree c.outcome_stays.ensures (after_all run w) certified has (kept_all w run o steps given) name other deal outcome second before earlier s t
