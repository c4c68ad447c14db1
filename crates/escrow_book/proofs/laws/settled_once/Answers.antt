use Rattle.escrow_book.specs.History.{with_changes, registration, settlement}
use Rattle.escrow_book.proofs.Lookups.{settlement_stays}
use Rattle.escrow_book.proofs.Once.{registered_once, settled_once, one_answers}
use Rattle.escrow_book.proofs.Growth.{payout_stays}
use Rattle.escrow_book.proofs.Steps.{base_of, rest_accepted}
use Rattle.escrow_book.proofs.Whole.{grown}
use Rattle.escrow_book.proofs.laws.settled_once.Goals as goal

pub returns-clause-registered : goal.returns-clause-registered
returns-clause-registered c = λ h d r. one_answers (registration d) h.changes (registered_once (base_of h) h.changes d (grown h r))

pub returns-clause-settled : goal.returns-clause-settled
returns-clause-settled c = λ h d r. one_answers (settlement d) h.changes (settled_once (base_of h) h.changes d (grown h r))

pub returns-clause-outcome_stays : goal.returns-clause-outcome_stays
returns-clause-outcome_stays c = λ h more d outcome ended. settlement_stays h more d outcome ended

pub returns-clause-payout_stays : goal.returns-clause-payout_stays
returns-clause-payout_stays c = λ h more d p x outcome r ended. payout_stays h more d outcome p x (rest_accepted h more (grown (with_changes h more) r)) ended
