-- What is asked of a house at a moment: the texts that were hashed don't collide, few seats
-- deviate, and compliant signatures are unforged.
use Rattle.std.specs.Prelude.{ℕ, ◌≡◌, ◌<◌, ◌^◌, List, length, Some, is_some, slice_get}
use Rattle.std.specs.List.{Contains, AllByRecursion}
use Rattle.sha2.specs.Sha256.{sha256}
use Rattle.dh_base.specs.declared.id.Id.{Id}
use Rattle.dh_base.specs.Fields.{AreBytes}
use Rattle.key_ring.specs.declared.envelope.Envelope.{Envelope}
use Rattle.key_ring.specs.Saying.{Says}
use Rattle.vote_log.specs.RecordTexts.{IsRecord}
use Rattle.vote_log.specs.Heads.{head_texts}
use Rattle.cert_core.specs.declared.seat_sig.SeatSig.{SeatSig}
use Rattle.cert_core.specs.Sets.{SetTold}
use Rattle.cert_core.specs.Quorums.{account_of}
use Rattle.cert_core.specs.SharedSeats.{FewDeviate}
use Rattle.claim_core.specs.declared.link.Link.{Link}
use Rattle.claim_core.specs.declared.claim.Claim.{Claim}
use Rattle.one_log.specs.Holders.{Holder, SeatState}
use Rattle.one_log.specs.Houses.{House, Chain, house_of, chain_of, IsDelivered, Reaches}

-- ---- hashes

-- The text is hashed for the head of a delivered chain's records or of a seat's own, or is the text
-- of a set in a delivered chain.
pub data IsHashed (w : House) (text : List ℕ) : Type 0 where
  of_chain : (chain : Chain) → IsDelivered w chain
      → Contains (head_texts (house_of w) chain.records) text → IsHashed w text
  of_seat : (account : Id) (holder : Holder) (seat : SeatState)
      → w.holders account ≡ Some holder → holder.seat ≡ Some seat
      → Contains (head_texts (house_of w) seat.records) text → IsHashed w text
  of_link : (chain : Chain) (link : Link) → IsDelivered w chain → Contains chain.links link
      → text ≡ link.set_text → IsHashed w text

-- no two different ones of these texts have one hash
abbrev pub IsCollisionFree : House → Type 0
IsCollisionFree w = (text other : List ℕ) → IsHashed w text → IsHashed w other
    → sha256 text ≡ sha256 other → text ≡ other

-- ---- quorums

-- at most f seats of the set are not those of compliant holders
abbrev pub HasFewDeviants : House → SetTold → Type 0
HasFewDeviants w set =
    FewDeviate set (λ seat. is_some (w.holders (account_of set.seats seat)))

-- so it is in each set to which a delivered chain, or a front of one, leads
abbrev pub HasHonestQuorums : House → Type 0
HasHonestQuorums w = (chain : Chain) (front : List Link) (set : SetTold)
    → Reaches w chain front set → HasFewDeviants w set

-- ---- signatures

-- What the envelope says under a compliant account stands in the texts of its holder, under the
-- number of the envelope's key.
abbrev pub IsUnforged : House → Envelope → Type 0
IsUnforged w env = (account : Id) (holder : Holder) (q : ℕ) (message : List ℕ)
    → Says env account.0 q message → w.holders account ≡ Some holder
    → slice_get holder.texts q ≡ Some message

abbrev pub AreUnforgedSigs : House → List SeatSig → Type 0
AreUnforgedSigs w sigs = AllByRecursion (λ (sig : SeatSig). IsUnforged w sig.env) sigs

-- the envelopes of a chain, and of a claim
abbrev pub IsUnforgedChain : House → Chain → Type 0
IsUnforgedChain w chain = AllByRecursion (λ (link : Link). AreUnforgedSigs w link.sigs) chain.links

pub record IsUnforgedClaim (w : House) (claim : Claim) : Type 0 where
  pub links : IsUnforgedChain w (chain_of claim)
  pub sigs : AreUnforgedSigs w claim.sigs

-- ---- what a program holds

-- As any chain that a program holds: its records are records, fewer than 2^32, and the texts of its
-- sets are of bytes.
pub record IsHeld (chain : Chain) : Type 0 where
  pub records : AllByRecursion IsRecord chain.records
  pub few : length chain.records < 2 ^ 32
  pub texts : AllByRecursion (λ (link : Link). AreBytes link.set_text) chain.links
