use Rattle.ledger_rows.proofs.ValuesSpelled.{free_read, registration_read, hold_read, moves_read, used_read, entry_read}
use Rattle.ledger_rows.proofs.laws.values_read.Goals as goal

pub returns : goal.returns
returns c = record {
  free = free_read;
  deal = registration_read;
  hold = hold_read;
  moves = moves_read;
  used = used_read;
  entry = entry_read;
}
