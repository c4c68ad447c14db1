-- The first broken part of a claim.
use Rattle.std.specs.Prelude.{ℕ, ◌+◌, ◌==◌, ◌&&◌, Bool, not, suc, nat_le, if◌then◌else◌, List, [], ◌∷◌, length, take, Result, Ok, Err}
use Rattle.dh_base.specs.declared.id.Id.{Id}
use Rattle.dh_base.specs.Ids.{same_id}
use Rattle.dh_base.specs.Fields.{◌>>=◌}
use Rattle.dh_base.specs.Formats.{or_fault}
use Rattle.vote_log.specs.Entry.{Entry}
use Rattle.vote_log.specs.Heads.{head_after}
use Rattle.cert_core.specs.Sets.{SetTold, id_of_set}
use Rattle.cert_core.specs.SetReading.{set_of}
use Rattle.cert_core.specs.Quorums.{quorum_of}
use Rattle.claim_core.specs.declared.link.Link.{Link}
use Rattle.claim_core.specs.declared.claim.Claim.{Claim}
use Rattle.claim_core.specs.declared.certificate.Certified.{Certified}
use Rattle.claim_core.specs.declared.link_fault.LinkFault.{LinkFault}
use Rattle.claim_core.specs.declared.link_fault.LinkFault.TheVariants.{BadSet, WrongEpoch, HeadNotOnPath, BadQuorum as BadLinkQuorum}
use Rattle.claim_core.specs.declared.claim_fault.ClaimFault.{ClaimFault}
use Rattle.claim_core.specs.declared.claim_fault.ClaimFault.TheVariants.{BadChain, WrongHead, BadQuorum}
use Rattle.claim_core.specs.Chains.{handed_over}
use Rattle.claim_core.specs.Certificates.{vouched_for, certified_by}

abbrev pub is_on_path : Id → List Entry → Link → Bool
is_on_path house recs link =
    nat_le link.len (length recs) && same_id (head_after house (take link.len recs)) link.head

-- the set of the link's text, where its epoch is the next
unfoldable pub named_set : SetTold → Link → Result SetTold LinkFault
named_set set link = do
  next ← or_fault BadSet (set_of link.set_text)
  if next.epoch == set.epoch + 1 then Ok next
      else Err (WrongEpoch (set.epoch + 1) next.epoch)

-- The set to which a link leads, or what is the first of it that is broken: its set, its place on
-- the records, its quorum.
unfoldable pub next_set : Id → List Entry → SetTold → Link → Result SetTold LinkFault
next_set house recs set link = do
  next ← named_set set link
  if not (is_on_path house recs link) then Err (HeadNotOnPath link.len) else do
    counted ← or_fault BadLinkQuorum (quorum_of set (handed_over set link next) link.sigs)
    Ok next

-- the set to which links lead, or the first broken one, which has its number
abbrev pub last_set : Id → List Entry → ℕ → SetTold → List Link → Result SetTold ClaimFault
last_set house recs number set [] = Ok set
last_set house recs number set (link ∷ links) =
    or_fault (BadChain number) (next_set house recs set link) >>= λ next.
    last_set house recs (suc number) next links

-- what the set certifies, where the head is that of the records and a quorum signs
unfoldable pub certified_for : Id → SetTold → Claim → Result Certified ClaimFault
certified_for house set claim =
    if not (same_id (head_after house claim.recs) claim.head)
    then Err (WrongHead (head_after house claim.recs) claim.head) else do
      counted ← or_fault BadQuorum (quorum_of set (vouched_for set claim) claim.sigs)
      Ok (certified_by set claim)

-- what a claim certifies, or its first broken part
unfoldable pub certified_of : SetTold → Claim → Result Certified ClaimFault
certified_of genesis claim = do
  set ← last_set (id_of_set genesis) claim.recs 0 genesis claim.links
  certified_for (id_of_set genesis) set claim
