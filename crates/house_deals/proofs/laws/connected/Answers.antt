use Rattle.house_deals.proofs.Reached.{connected_is, is_connected_so}
use Rattle.house_deals.proofs.laws.connected.Goals as goal

pub returns : goal.returns
returns c = λ steps parties le within. (connected_is steps parties le within, is_connected_so steps parties le within)
