-- Certified claims.
use Rattle.std.specs.Prelude.{ℕ, ◌≡◌, List, length}
use Rattle.std.specs.List.{AllByRecursion}
use Rattle.dh_base.specs.declared.id.Id.{Id}
use Rattle.vote_log.specs.Heads.{head_after}
use Rattle.cert_core.specs.Sets.{SetTold, id_of_set}
use Rattle.cert_core.specs.SeatTexts.{prefix_text}
use Rattle.cert_core.specs.Quorums.{IsQuorum, HaveByteRings}
use Rattle.claim_core.specs.declared.certificate.Certified.{Certified}
use Rattle.claim_core.specs.declared.claim.Claim.{Claim}
use Rattle.claim_core.specs.declared.link.Link.{Link}
use Rattle.claim_core.specs.Chains.{ChainLeadsTo}

-- what the seats of the last set sign
abbrev pub vouched_for : SetTold → Claim → List ℕ
vouched_for set claim = prefix_text (id_of_set set) (length claim.recs) claim.head

-- In the house the claim's head is that of all its records, and a quorum of the set signs them.
pub record IsVouchedFor (house : Id) (claim : Claim) (set : SetTold) : Type 0 where
  pub head : claim.head ≡ head_after house claim.recs
  pub quorum : IsQuorum set (vouched_for set claim) claim.sigs

-- The claim certifies its records: its links lead from the set of epoch 0, whose id names the
-- house, to this set, and this set vouches for them.
pub record Certifies (genesis : SetTold) (claim : Claim) (set : SetTold) : Type 0 where
  pub chain : ChainLeadsTo (id_of_set genesis) claim.recs genesis claim.links set
  pub vouched : IsVouchedFor (id_of_set genesis) claim set

-- what is certified, and by which set
abbrev pub certified_by : SetTold → Claim → Certified
certified_by set claim = record {
  set = id_of_set set;
  epoch = set.epoch;
  len = length claim.recs;
  head = claim.head;
}

-- The texts of all rings in the claim are of bytes, as those of any claim that a program holds.
pub record HasByteRings (claim : Claim) : Type 0 where
  pub links : AllByRecursion (λ (link : Link). HaveByteRings link.sigs) claim.links
  pub sigs : HaveByteRings claim.sigs
