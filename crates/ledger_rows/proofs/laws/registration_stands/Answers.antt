use Rattle.ledger_rows.proofs.RegistrationsStand as registrations
use Rattle.ledger_rows.proofs.laws.registration_stands.Goals as goal

pub returns : goal.returns
returns c = registrations.registration_stands
