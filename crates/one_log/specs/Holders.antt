-- Compliant holders of keys: agents, and the seats of validator sets.
use Rattle.std.specs.Prelude.{ℕ, ◌≡◌, ◌≤◌, Bool, List, length, take, Option, Some}
use Rattle.dh_base.specs.declared.id.Id.{Id}
use Rattle.vote_log.specs.Entry.{Entry}
use Rattle.vote_log.specs.Heads.{head_after}
use Rattle.cert_core.specs.Sets.{SetTold, id_of_set}
use Rattle.cert_core.specs.SeatTexts.{SeatText, Prefix, Handover}

-- What a seat has: its set, whether it has begun, its own list of records, and the id of the set
-- for which it is closed.
pub record SeatState : Type 0 where
  pub set : SetTold
  pub begun : Bool
  pub records : List Entry
  pub closing : Option Id

-- The texts that the keys 0, 1, 2 and so on of a compliant holder have signed, and what its seat
-- has. An agent has no seat.
pub record Holder : Type 0 where
  pub texts : List (List ℕ)
  pub seat : Option SeatState

-- What a seat may have signed: the head of a front of its own list, or that all of its list is
-- handed over to the one set for which it is closed.
abbrev pub IsOwn : Id → SeatState → SeatText → Type 0
IsOwn house seat (Prefix set len head) =
    (set ≡ id_of_set seat.set) × (len ≤ length seat.records)
    × (head ≡ head_after house (take len seat.records))
IsOwn house seat (Handover set len head next) =
    (set ≡ id_of_set seat.set) × (len ≡ length seat.records)
    × (head ≡ head_after house seat.records) × (seat.closing ≡ Some next)
