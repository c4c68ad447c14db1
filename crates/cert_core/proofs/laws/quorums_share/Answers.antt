use Rattle.cert_core.proofs.SharedSeats.{shared, complying}
use Rattle.cert_core.proofs.laws.quorums_share.Goals as goal

pub returns : goal.returns
returns c = record { seats = shared; complying = complying }
