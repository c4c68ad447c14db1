-- Quorums: 2f + 1 different seats of a set say one text. Two quorums of one set share f + 1 seats,
-- and so one that complies, where at most f deviate.
use Rattle.std.specs.Prelude.{ℕ, ◌+◌, ◌*◌, ◌<◌, ◌≤◌, ◌==◌, Bool, not, nat_lt, nat_le, eqb, if◌then◌else◌, List, [], ◌∷◌, ◌++◌, length, map, slice_index_or, Option, Some, None, Result, Ok, Err}
use Rattle.std.specs.List.{list_any, AllByRecursion, IsDistinct}
use Rattle.std.specs.Option.{option_or}
use Rattle.std.specs.Str.{bytes_eq}
use Rattle.dh_base.specs.declared.id.Id.{Id}
use Rattle.dh_base.specs.Fields.{AreBytes}
use Rattle.dh_base.specs.Ids.{same_id}
use Rattle.key_ring.specs.declared.envelope.Envelope.{Envelope}
use Rattle.key_ring.specs.declared.env_fault.EnvFault.{EnvFault}
use Rattle.key_ring.specs.declared.said.Said.{Said}
use Rattle.key_ring.specs.Saying.{Says}
use Rattle.key_ring.specs.Answering.{said_of}
use Rattle.cert_core.specs.declared.quorum_fault.QuorumFault.{QuorumFault}
use Rattle.cert_core.specs.declared.quorum_fault.QuorumFault.TheVariants.{SeatOutside, SeatTwice, BadEnvelope, NotItsRing, OtherText, TooFew}
use Rattle.cert_core.specs.declared.seat_sig.SeatSig.{SeatSig}
use Rattle.cert_core.specs.Sets.{SetTold}

-- the account of a seat
abbrev pub account_of : List Id → ℕ → Id
account_of accounts seat = slice_index_or accounts seat (record { 0 = [] })

abbrev pub seats_of : List SeatSig → List ℕ
seats_of sigs = map (λ (sig : SeatSig). sig.seat) sigs

-- how many seats are a quorum
abbrev pub quorum_size : SetTold → ℕ
quorum_size set = 2 * set.f + 1

-- The envelope says the text under the account.
pub record SaysAs (account : Id) (text : List ℕ) (env : Envelope) : Type 0 where
  pub q : ℕ
  pub says : Says env account.0 q text

-- The seat's envelope says the text under the seat's account.
abbrev pub Vouches : List Id → List ℕ → SeatSig → Type 0
Vouches accounts text sig = SaysAs (account_of accounts sig.seat) text sig.env

pub record IsQuorum (set : SetTold) (text : List ℕ) (sigs : List SeatSig) : Type 0 where
  pub enough : quorum_size set ≤ length sigs
  pub different : IsDistinct eqb (seats_of sigs)
  pub inside : AllByRecursion (λ (seat : ℕ). seat < length set.seats) (seats_of sigs)
  pub vouched : AllByRecursion (Vouches set.seats text) sigs

-- The text of each envelope's ring is of bytes, as that of any envelope that a program holds.
abbrev pub HaveByteRings : List SeatSig → Type 0
HaveByteRings sigs = AllByRecursion (λ (sig : SeatSig). AreBytes sig.env.ring) sigs

-- ---- the first broken part

abbrev pub has_seat : List SeatSig → ℕ → Bool
has_seat sigs seat = list_any (λ (sig : SeatSig). sig.seat == seat) sigs

-- what is wrong with what the seat's envelope says
abbrev pub said_fault : Id → List ℕ → SeatSig → Result Said EnvFault → Option QuorumFault
said_fault account text sig (Err fault) = Some (BadEnvelope sig.seat fault)
said_fault account text sig (Ok said) =
    if not (same_id said.account account) then Some (NotItsRing sig.seat)
    else if not (bytes_eq sig.env.message text) then Some (OtherText sig.seat) else None

-- what is wrong with a signature behind earlier ones
abbrev pub sig_fault : List Id → List ℕ → List SeatSig → SeatSig → Option QuorumFault
sig_fault accounts text before sig =
    if nat_le (length accounts) sig.seat then Some (SeatOutside sig.seat)
    else if has_seat before sig.seat then Some (SeatTwice sig.seat)
    else said_fault (account_of accounts sig.seat) text sig (said_of sig.env)

-- what is wrong with the first signature at fault
abbrev pub first_fault : List Id → List ℕ → List SeatSig → List SeatSig → Option QuorumFault
first_fault accounts text before [] = None
first_fault accounts text before (sig ∷ sigs) =
    option_or (sig_fault accounts text before sig)
    (first_fault accounts text (before ++ sig ∷ []) sigs)

abbrev pub too_few : SetTold → ℕ → Option QuorumFault
too_few set counted =
    if nat_lt counted (quorum_size set) then Some (TooFew counted (quorum_size set)) else None

-- the first broken part of a quorum, if there is one
abbrev pub quorum_fault : SetTold → List ℕ → List SeatSig → Option QuorumFault
quorum_fault set text sigs =
    option_or (first_fault set.seats text [] sigs) (too_few set (length sigs))

abbrev pub or_counted : ℕ → Option QuorumFault → Result ℕ QuorumFault
or_counted counted None = Ok counted
or_counted counted (Some fault) = Err fault

-- how many seats say the text, or the first broken part
abbrev pub quorum_of : SetTold → List ℕ → List SeatSig → Result ℕ QuorumFault
quorum_of set text sigs = or_counted (length sigs) (quorum_fault set text sigs)
