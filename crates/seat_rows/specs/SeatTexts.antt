-- What a seat signs, and what every seat keeps to.
use Rattle.std.specs.Prelude.{ℕ, ◌≡◌, ◌≤◌, Bool, true, false, if◌then◌else◌, List, [], length, take, Option, Some, None, is_some, IfSome, IsSome}
use Rattle.std.specs.Str.{bytes_eq}
use Rattle.vote_log.specs.Entry.{Entry}
use Rattle.vote_log.specs.Heads.{head_after}
use Rattle.cert_core.specs.Sets.{SetTold, id_of_set}
use Rattle.cert_core.specs.SeatTexts.{prefix_text, handover_text}
use Rattle.key_ring.specs.Signers.{key_of}
use Rattle.seat_rows.specs.declared.place.SeatPlace.{SeatPlace}
use Rattle.seat_rows.specs.declared.closing.Closing.{Closing}
use Rattle.seat_rows.specs.declared.state.SeatState.{SeatState}
use Rattle.seat_rows.specs.SeatPlaces.{house_of, is_first}

-- what the seat signs of the first so many records
abbrev pub prefix_of : SeatPlace → List Entry → ℕ → List ℕ
prefix_of place entries len =
    prefix_text (id_of_set place.set) len (head_after (house_of place) (take len entries))

-- what the seat signs when it hands all its records over to the next set
abbrev pub handover_of : SeatPlace → List Entry → SetTold → List ℕ
handover_of place entries next =
    handover_text (id_of_set place.set) (length entries) (head_after (house_of place) entries)
    (id_of_set next)

-- it is that text
abbrev pub is_text : Option (List ℕ) → List ℕ → Bool
is_text None text = false
is_text (Some own) text = bytes_eq own text

abbrev pub has_handed_for : SeatPlace → SeatState → Option Closing → Bool
has_handed_for place state None = false
has_handed_for place state (Some closing) =
    is_some (key_of state.signer (handover_of place state.log.entries closing.next))

-- whether the seat has signed the handover for which it is closed
abbrev pub has_handed : SeatPlace → SeatState → Bool
has_handed place state = has_handed_for place state state.closing

-- one key is held back until the handover's text is signed
abbrev pub reserve_of : SeatPlace → SeatState → ℕ
reserve_of place state = if has_handed place state then 0 else 1

-- What every seat keeps to: its log is of its house; its last key has signed its handover, if it
-- has signed; it is closed at the length of its list, which it has begun; a list that has not begun
-- is empty; and a seat of the set of epoch 0 has begun with no record.
pub record IsSound (place : SeatPlace) (state : SeatState) : Type 0 where
  pub housed : state.log.house ≡ house_of place
  pub few : length state.signer.texts ≤ state.signer.spec.size
  pub reserve : length state.signer.texts ≡ state.signer.spec.size
      → has_handed place state ≡ true
  pub closed : IfSome state.closing (λ closing.
      (closing.len ≡ length state.log.entries) × IsSome state.begun)
  pub empty : state.begun ≡ None → state.log.entries ≡ []
  pub first : is_first place ≡ true → state.begun ≡ Some 0
