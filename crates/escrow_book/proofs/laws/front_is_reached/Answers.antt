use Rattle.escrow_book.specs.Reached.{begun}
use Rattle.escrow_book.proofs.Steps.{accepted_split}
use Rattle.escrow_book.proofs.laws.front_is_reached.Goals as goal

pub returns : goal.returns
returns c = λ h more r. record {
  whole = r.whole;
  good = r.good;
  accepted = (accepted_split (begun h.opening h.carried) h.changes more r.accepted).0;
}
