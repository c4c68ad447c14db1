-- Seats that say two texts of their set.
use Rattle.std.specs.Prelude.{ℕ, ◌≡◌, ◌+◌, ◌≤◌, zero, suc, Bool, IsTrue, not, ◌&&◌, if◌then◌else◌, List, length}
use Rattle.std.specs.List.{Contains}
use Rattle.cert_core.specs.declared.seat_sig.SeatSig.{SeatSig}
use Rattle.cert_core.specs.Sets.{SetTold}
use Rattle.cert_core.specs.Quorums.{has_seat}

-- how many of the seats from 0 on, so many of them, pass a test
abbrev pub count_seats : (ℕ → Bool) → ℕ → ℕ
count_seats passes zero = 0
count_seats passes (suc n) = (if passes n then 1 else 0) + count_seats passes n

-- a signature of the seat stands in both lists
abbrev pub signs_both : List SeatSig → List SeatSig → ℕ → Bool
signs_both sigs others seat = has_seat sigs seat && has_seat others seat

-- at most f seats of the set don't comply
abbrev pub FewDeviate : SetTold → (ℕ → Bool) → Type 0
FewDeviate set complies = count_seats (λ seat. not (complies seat)) (length set.seats) ≤ set.f

-- A seat that complies has a signature in both lists.
pub record SharedSeat (complies : ℕ → Bool) (sigs others : List SeatSig) : Type 0 where
  pub sig : SeatSig
  pub other : SeatSig
  pub first : Contains sigs sig
  pub second : Contains others other
  pub same : other.seat ≡ sig.seat
  pub complies_is : IsTrue (complies sig.seat)
