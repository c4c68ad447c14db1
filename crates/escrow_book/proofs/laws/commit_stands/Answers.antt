use Rattle.escrow_book.proofs.Standing.{commit_stands}
use Rattle.escrow_book.proofs.laws.commit_stands.Goals as goal

pub returns : goal.returns
returns c = commit_stands
