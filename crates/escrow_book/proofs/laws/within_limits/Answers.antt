use Rattle.escrow_book.proofs.Steps.{base_of}
use Rattle.escrow_book.proofs.Whole.{grown, carries_none}
use Rattle.escrow_book.proofs.Bounds.{free_within, if_commit_open, if_abort_open, moves_within}
use Rattle.escrow_book.proofs.laws.within_limits.Goals as goal

pub returns : goal.returns
returns c = λ h r. record {
  free = free_within (base_of h) h.changes (grown h r);
  if_commit = λ d p x. if_commit_open (base_of h) h.changes (grown h r) d p x (carries_none h r d);
  if_abort = λ d p x. if_abort_open (base_of h) h.changes (grown h r) d p x (carries_none h r d);
  moves = λ d p. moves_within (base_of h) h.changes d p (grown h r);
}
