use Rattle.std.proofs.Common.{◌≡◌, take, length}
use Rattle.cert_core.specs.SetReading.{accounts_in}
use Rattle.cert_core.proofs.set_text.read_accounts.Given as goal

-- the accounts so far are read
abbrev pub invariant-loop-seat : goal.invariant-loop-seat
invariant-loop-seat l = record { places : length l.accounts ≡ 16; read : take l.seat l.accounts ≡ accounts_in l.seat l.bytes }
