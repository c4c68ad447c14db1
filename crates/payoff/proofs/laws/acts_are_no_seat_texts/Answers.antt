use Rattle.payoff.proofs.Acts.{no_seat_text}
use Rattle.payoff.proofs.laws.acts_are_no_seat_texts.Goals as goal

pub returns : goal.returns
returns c = λ text act e. no_seat_text text act e
