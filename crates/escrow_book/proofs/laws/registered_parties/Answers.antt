use Rattle.escrow_book.proofs.Standing.{good_parties}
use Rattle.escrow_book.proofs.laws.registered_parties.Goals as goal

pub returns : goal.returns
returns c = good_parties
