-- Which seat it is, and what it signs.
use Rattle.std.specs.Prelude.{ℕ, Bool, List, ◌++◌}
use Rattle.std.specs.Int.{w16, to_be_bytes}
use Rattle.sha2.specs.Sha256.{sha256}
use Rattle.dh_base.specs.declared.id.Id.{Id}
use Rattle.dh_base.specs.Ids.{same_id}
use Rattle.cert_core.specs.Sets.{id_of_set}
use Rattle.seat_rows.specs.declared.place.SeatPlace.{SeatPlace}

-- the house of a set of epoch 0
abbrev pub house_of : SeatPlace → Id
house_of place = id_of_set place.genesis

-- whether its set is that of epoch 0
abbrev pub is_first : SeatPlace → Bool
is_first place = same_id (id_of_set place.set) (house_of place)

-- the identity of a seat with that account: the digest of the house, its set, its index and the
-- account
abbrev pub identity_of : SeatPlace → List ℕ → Id
identity_of place account = record {
  0 = sha256 ((house_of place).0 ++ (id_of_set place.set).0 ++ to_be_bytes w16 place.index
      ++ account);
}
