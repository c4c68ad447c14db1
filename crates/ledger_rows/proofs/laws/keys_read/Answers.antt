use Rattle.ledger_rows.proofs.KeysSpelled.{free_keys_read, hold_keys_read, moves_keys_read, used_keys_read}
use Rattle.ledger_rows.proofs.laws.keys_read.Goals as goal

pub returns : goal.returns
returns c = record {
  free = free_keys_read;
  hold = hold_keys_read;
  moves = moves_keys_read;
  used = used_keys_read;
}
