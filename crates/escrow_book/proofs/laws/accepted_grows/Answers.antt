use Rattle.std.proofs.Common.{refl}
use Rattle.escrow_book.proofs.Steps.{grown_push, reached_push}
use Rattle.escrow_book.proofs.laws.accepted_grows.Goals as goal

pub returns-clause-start : goal.returns-clause-start
returns-clause-start c = λ rows good. record { whole = refl; good = good; accepted = tt }

pub returns-clause-reached : goal.returns-clause-reached
returns-clause-reached c = reached_push

pub returns-clause-grown : goal.returns-clause-grown
returns-clause-grown c = grown_push
