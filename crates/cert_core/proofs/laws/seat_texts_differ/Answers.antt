use Rattle.cert_core.proofs.SeatTexts.{one_text}
use Rattle.cert_core.proofs.laws.seat_texts_differ.Goals as goal

pub returns : goal.returns
returns c = one_text
