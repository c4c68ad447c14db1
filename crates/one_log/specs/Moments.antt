-- Runs: lists of moments. A moment is what one commit of a node's call changes, or what a request
-- delivers; a call that is refused, wants memory or meets a failing keeper changes nothing. So a
-- handover that stops between its two commits is the moment `Closes` alone.
use Rattle.std.specs.Prelude.{ℕ, ◌≡◌, ◌≤◌, ◌<◌, ◌^◌, true, false, if◌then◌else◌, List, [], ◌∷◌, ◌++◌, length, take, Option, Some, None}
use Rattle.std.specs.Option.{option_map}
use Rattle.dh_base.specs.declared.id.Id.{Id}
use Rattle.dh_base.specs.Ids.{same_id}
use Rattle.vote_log.specs.Entry.{Entry}
use Rattle.vote_log.specs.Heads.{head_after}
use Rattle.vote_log.specs.RecordTexts.{IsRecord}
use Rattle.cert_core.specs.Sets.{SetTold, HasSeats, id_of_set}
use Rattle.cert_core.specs.SeatTexts.{SeatText, seat_text, prefix_text, handover_text}
use Rattle.claim_core.specs.declared.link.Link.{Link}
use Rattle.claim_core.specs.declared.claim.Claim.{Claim}
use Rattle.claim_core.specs.Chains.{ChainLeadsTo}
use Rattle.one_log.specs.Holders.{SeatState, Holder}
use Rattle.one_log.specs.Houses.{House, Chain, chain_of, house_of, IsDelivered}
use Rattle.one_log.specs.Premises.{IsCollisionFree, HasHonestQuorums, IsUnforgedChain, IsUnforgedClaim, IsHeld}

-- what a commit of a seat's call changes
pub data SeatChange : Type 0 where
  Enters : (entry : Entry) → SeatChange
  SignsPrefix : (len : ℕ) → SeatChange
  Closes : (next : Id) → SeatChange
  SignsHandover : (next : Id) → SeatChange
  Begins : (chain : Chain) → SeatChange

pub data Moment : Type 0 where
  Seats : (account : Id) (change : SeatChange) → Moment
  Signs : (account : Id) (text : List ℕ) → Moment  -- an agent signs
  Shows : (claim : Claim) → Moment
  Delivers : (chain : Chain) → Moment

-- ---- what a moment changes

abbrev pub seat_after : SeatChange → SeatState → SeatState
seat_after (Enters entry) seat = record seat { records = seat.records ++ entry ∷ [] }
seat_after (SignsPrefix len) seat = seat
seat_after (Closes next) seat = record seat { closing = Some next }
seat_after (SignsHandover next) seat = seat
seat_after (Begins chain) seat = record seat { begun = true; records = chain.records }

-- the texts with the one that the seat signs
abbrev pub texts_after : Id → SeatChange → SeatState → List (List ℕ) → List (List ℕ)
texts_after house (SignsPrefix len) seat texts =
    texts ++ prefix_text (id_of_set seat.set) len (head_after house (take len seat.records)) ∷ []
texts_after house (SignsHandover next) seat texts =
    texts
    ++ handover_text (id_of_set seat.set) (length seat.records) (head_after house seat.records) next
    ∷ []
texts_after house (Enters entry) seat texts = texts
texts_after house (Closes next) seat texts = texts
texts_after house (Begins chain) seat texts = texts

-- what a change of its seat makes of a holder with these texts
abbrev pub changed : Id → SeatChange → List (List ℕ) → Option SeatState → Holder
changed house change texts None = record { texts = texts; seat = None }
changed house change texts (Some seat) =
    record { texts = texts_after house change seat texts; seat = Some (seat_after change seat) }

-- what the moment makes of the holder of the account
abbrev pub holder_after : Id → Moment → Id → Holder → Holder
holder_after house (Seats account change) own holder =
    if same_id account own then changed house change holder.texts holder.seat else holder
holder_after house (Signs account text) own holder =
    if same_id account own
    then (record { texts = holder.texts ++ text ∷ []; seat = holder.seat }) else holder
holder_after house (Shows claim) own holder = holder
holder_after house (Delivers chain) own holder = holder

abbrev pub claims_of : Moment → List Claim
claims_of (Seats account change) = []
claims_of (Signs account text) = []
claims_of (Shows claim) = claim ∷ []
claims_of (Delivers chain) = []

abbrev pub chains_of : Moment → List Chain
chains_of (Seats account change) = []
chains_of (Signs account text) = []
chains_of (Shows claim) = []
chains_of (Delivers chain) = chain ∷ []

abbrev pub after : House → Moment → House
after w moment = record {
  genesis = w.genesis;
  holders = λ own. option_map (holder_after (house_of w) moment own) (w.holders own);
  claims = claims_of moment ++ w.claims;
  chains = chains_of moment ++ w.chains;
}

abbrev pub after_all : List Moment → House → House
after_all [] w = w
after_all (moment ∷ rest) w = after_all rest (after w moment)

-- the record that the moment enters into the list of a seat
abbrev pub entries_of : Moment → List Entry
entries_of (Seats account (Enters entry)) = entry ∷ []
entries_of (Seats account (SignsPrefix len)) = []
entries_of (Seats account (Closes next)) = []
entries_of (Seats account (SignsHandover next)) = []
entries_of (Seats account (Begins chain)) = []
entries_of (Signs account text) = []
entries_of (Shows claim) = []
entries_of (Delivers chain) = []

-- all records that compliant seats entered
abbrev pub entered_in : List Moment → List Entry
entered_in [] = []
entered_in (moment ∷ rest) = entries_of moment ++ entered_in rest

-- ---- what a node may do

-- The chain was delivered, and its last link leads to the set at the length of its records.
pub record MayBegin (w : House) (set : SetTold) (chain : Chain) : Type 0 where
  pub delivered : IsDelivered w chain
  pub front : List Link
  pub last : Link
  pub parts : chain.links ≡ front ++ last ∷ []
  pub leads : ChainLeadsTo (house_of w) chain.records w.genesis chain.links set
  pub whole : last.len ≡ length chain.records

abbrev pub IsOpen : SeatState → Type 0
IsOpen seat = (seat.begun ≡ true) × (seat.closing ≡ None)

-- What the calls of a seat keep to: it enters records and closes only while it has begun and isn't
-- closed, signs heads of its own list, hands over where it is closed for that set, and begins once.
abbrev pub IsSeatStep : House → SeatState → SeatChange → Type 0
IsSeatStep w seat (Enters entry) = IsOpen seat × IsRecord entry
IsSeatStep w seat (SignsPrefix len) =
    (seat.begun ≡ true) × (len ≤ length seat.records) × (len < 2 ^ 32)
IsSeatStep w seat (Closes next) = IsOpen seat
IsSeatStep w seat (SignsHandover next) =
    (seat.closing ≡ Some next) × (length seat.records < 2 ^ 32)
IsSeatStep w seat (Begins chain) = (seat.begun ≡ false) × MayBegin w seat.set chain

-- An agent signs acts, and no text of a seat.
abbrev pub IsAgentStep : List ℕ → Type 0
IsAgentStep text = (seat : SeatText) → seat_text seat ≡ text → ⊥

abbrev pub IsStep : House → Moment → Type 0
IsStep w (Seats account change) = (holder : Holder) (seat : SeatState)
    → w.holders account ≡ Some holder → holder.seat ≡ Some seat → IsSeatStep w seat change
IsStep w (Signs account text) = IsAgentStep text
IsStep w (Shows claim) = IsHeld (chain_of claim)
IsStep w (Delivers chain) = IsHeld chain

-- each moment is such a step
abbrev pub IsRun : House → List Moment → Type 0
IsRun w [] = Unit {0}
IsRun w (moment ∷ rest) = IsStep w moment × IsRun (after w moment) rest

-- before the first moment nothing is signed, entered or delivered
pub record IsOpening (w : House) : Type 0 where
  pub genesis : HasSeats w.genesis
  pub texts : (account : Id) (holder : Holder) → w.holders account ≡ Some holder
      → holder.texts ≡ []
  pub seats : (account : Id) (holder : Holder) (seat : SeatState)
      → w.holders account ≡ Some holder → holder.seat ≡ Some seat
      → (seat.records ≡ []) × (seat.closing ≡ None)
  pub claims : w.claims ≡ []
  pub chains : w.chains ≡ []

-- ---- the premises

-- the envelopes that the moment delivers are unforged
abbrev pub DeliversUnforged : House → Moment → Type 0
DeliversUnforged w (Seats account change) = Unit {0}
DeliversUnforged w (Signs account text) = Unit {0}
DeliversUnforged w (Shows claim) = IsUnforgedClaim w claim
DeliversUnforged w (Delivers chain) = IsUnforgedChain w chain

abbrev pub AreUnforged : House → List Moment → Type 0
AreUnforged w [] = Unit {0}
AreUnforged w (moment ∷ rest) = DeliversUnforged w moment × AreUnforged (after w moment) rest

-- The premises of a run. That hashes don't collide and that few seats deviate is asked once, of the
-- house at its end, and so held at each moment before.
pub record IsGiven (w : House) (run : List Moment) : Type 0 where
  pub unforged : AreUnforged w run
  pub collision_free : IsCollisionFree (after_all run w)
  pub honest_quorums : HasHonestQuorums (after_all run w)
