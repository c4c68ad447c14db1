use Rattle.std.proofs.Common.{length}
use Rattle.clear_core.proofs.Conserved.{dues_are_needs}
use Rattle.clear_core.proofs.laws.dues_are_needs.Goals as goal

pub returns : goal.returns
returns c deal kept ledger asset = dues_are_needs (length deal.parties) deal.steps ledger asset kept.kept.between
