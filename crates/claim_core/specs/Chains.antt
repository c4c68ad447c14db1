-- Chains of validator sets: the set of epoch 0 hands over to one of epoch 1, that to the next one,
-- and so on.
use Rattle.std.specs.Prelude.{ℕ, ◌≡◌, ◌+◌, ◌≤◌, List, [], ◌∷◌, length, take, Ok}
use Rattle.dh_base.specs.declared.id.Id.{Id}
use Rattle.vote_log.specs.Entry.{Entry}
use Rattle.vote_log.specs.Heads.{head_after}
use Rattle.cert_core.specs.Sets.{SetTold, id_of_set}
use Rattle.cert_core.specs.SetReading.{set_of}
use Rattle.cert_core.specs.SeatTexts.{handover_text}
use Rattle.cert_core.specs.Quorums.{IsQuorum}
use Rattle.claim_core.specs.declared.link.Link.{Link}

-- what the seats of a set sign for the link to the next one
abbrev pub handed_over : SetTold → Link → SetTold → List ℕ
handed_over set link next = handover_text (id_of_set set) link.len link.head (id_of_set next)

-- By the link the set hands over to the next one: the link's text is read as it, its epoch is the
-- next, and a quorum of the set signs.
pub record HandsOver (set : SetTold) (link : Link) (next : SetTold) : Type 0 where
  pub reads : set_of link.set_text ≡ Ok next
  pub epoch : next.epoch ≡ set.epoch + 1
  pub quorum : IsQuorum set (handed_over set link next) link.sigs

-- The link stands on the records of a house: its head is that of so many first ones.
pub record IsOnPath (house : Id) (recs : List Entry) (link : Link) : Type 0 where
  pub within : link.len ≤ length recs
  pub head : link.head ≡ head_after house (take link.len recs)

-- From a set the links lead to the last one, each of them on the records.
abbrev pub ChainLeadsTo : Id → List Entry → SetTold → List Link → SetTold → Type 0
ChainLeadsTo house recs set [] last = set ≡ last
ChainLeadsTo house recs set (link ∷ links) last =
    (next : SetTold) × HandsOver set link next × IsOnPath house recs link
    × ChainLeadsTo house recs next links last
