use Rattle.std.proofs.Common.{refl}
use Rattle.vote_log.specs.Deciding.{outcome_of}
use Rattle.vote_log.proofs.FirstDecisive.{first_some, first_back, none_some, none_back}
use Rattle.vote_log.proofs.laws.first_decisive.Goals as goal

pub returns-clause-some : goal.returns-clause-some
returns-clause-some c = λ log deal place outcome. (λ e. first_some log deal place outcome e, λ is. first_back log deal place outcome (outcome_of log deal) refl is)

pub returns-clause-none : goal.returns-clause-none
returns-clause-none c = λ log deal. (λ e. none_some log deal e, λ never. none_back log deal (outcome_of log deal) refl never)
