use Rattle.seat_rows.proofs.Standing.{entry_stands, signed_stands, closing_stands}
use Rattle.seat_rows.proofs.laws.commits_stand.Goals as goal

pub returns : goal.returns
returns c = record { entries = entry_stands; signatures = signed_stands; closings = closing_stands }
