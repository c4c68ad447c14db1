use Rattle.std.proofs.Common.{◌≡◌, take, drop, []}
use Rattle.cert_core.specs.SetReading.{first_twice}
use Rattle.cert_core.proofs.set_text.seat_twice.Given as goal

-- none of the accounts so far stands twice
abbrev pub invariant-loop-seat : goal.invariant-loop-seat
invariant-loop-seat l = first_twice (take l.seat l.accounts) (drop l.seat l.accounts) ≡ first_twice [] l.accounts
