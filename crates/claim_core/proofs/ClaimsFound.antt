-- A claim without a broken part certifies, where the texts of rings are bytes.
use Rattle.std.proofs.Common.{◌≡◌, ℕ, suc, ◌↔◌, not, cond, List, [], ◌∷◌, Result, Ok, Err, sym, ap, subst, ◌∙◌}
use Rattle.std.specs.List.{AllByRecursion}
use Rattle.dh_base.specs.declared.id.Id.{Id}
use Rattle.dh_base.specs.Fields.{◌>>=◌}
use Rattle.dh_base.specs.Formats.{or_fault}
use Rattle.dh_base.proofs.Fields.{bind_ok}
use Rattle.vote_log.specs.Entry.{Entry}
use Rattle.cert_core.specs.Sets.{SetTold, id_of_set}
use Rattle.cert_core.specs.Quorums.{HaveByteRings, quorum_of}
use Rattle.cert_core.proofs.QuorumsFound.{quorum_found}
use Rattle.claim_core.specs.declared.link.Link.{Link}
use Rattle.claim_core.specs.declared.claim.Claim.{Claim}
use Rattle.claim_core.specs.declared.certificate.Certified.{Certified}
use Rattle.claim_core.specs.declared.claim_fault.ClaimFault.{ClaimFault}
use Rattle.claim_core.specs.declared.claim_fault.ClaimFault.TheVariants.{BadChain, BadQuorum}
use Rattle.claim_core.specs.declared.link_fault.LinkFault.{LinkFault}
use Rattle.claim_core.specs.declared.link_fault.LinkFault.TheVariants.{HeadNotOnPath, BadQuorum as BadLinkQuorum}
use Rattle.claim_core.specs.Chains.{handed_over, HandsOver, IsOnPath, ChainLeadsTo}
use Rattle.claim_core.specs.Certificates.{vouched_for, Certifies, certified_by, HasByteRings}
use Rattle.claim_core.specs.FirstBroken.{is_on_path, named_set, next_set, last_set, certified_for, certified_of}
use Rattle.claim_core.proofs.Leading.{let_by, was_ok, named_there, path_there, told_there, onward, certified_there}

abbrev leading : SetTold → ℕ → Result SetTold LinkFault
leading next counted = Ok next

abbrev signed : SetTold → Link → SetTold → Result SetTold LinkFault
signed set link next = or_fault BadLinkQuorum (quorum_of set (handed_over set link next) link.sigs) >>= leading next

abbrev placed : Id → List Entry → SetTold → Link → SetTold → Result SetTold LinkFault
placed house recs set link next = cond (not (is_on_path house recs link)) (Err (HeadNotOnPath link.len)) (signed set link next)

next_back : (house : Id) (recs : List Entry) (set : SetTold) (link : Link) (next : SetTold) → HaveByteRings link.sigs → next_set house recs set link ≡ Ok next → HandsOver set link next × IsOnPath house recs link
unfolding next_set
next_back house recs set link next are e =
    let a = bind_ok (named_set set link) (placed house recs set link) next e in
    let b = let_by (is_on_path house recs link) (HeadNotOnPath link.len) (signed set link a.0) next a.2 in
    let c = bind_ok (or_fault BadLinkQuorum (quorum_of set (handed_over set link a.0) link.sigs)) (leading a.0) next b.1 in
    let same : a.0 ≡ next = (let h : leading a.0 c.0 ≡ Ok next = c.2 in cc) in
    let q = (quorum_found set (handed_over set link a.0) link.sigs c.0 are).0 (was_ok BadLinkQuorum (quorum_of set (handed_over set link a.0) link.sigs) c.0 c.1) in
    let n = named_there set link a.0 a.1 in
    let hands : HandsOver set link a.0 = record { reads = n.0; epoch = n.1; quorum = q.0 } in
    (subst (HandsOver set link) same hands, path_there house recs link b.0)

abbrev LinksHaveBytes : List Link → Type 0
LinksHaveBytes links = AllByRecursion (λ (link : Link). HaveByteRings link.sigs) links

last_back : (house : Id) (recs : List Entry) (number : ℕ) (set : SetTold) (links : List Link) (last : SetTold) → LinksHaveBytes links → last_set house recs number set links ≡ Ok last → ChainLeadsTo house recs set links last
last_back house recs number set [] last are e = cc
last_back house recs number set (link ∷ links) last are e =
    let a = bind_ok (or_fault (BadChain number) (next_set house recs set link)) (onward house recs number links) last e in
    let n = next_back house recs set link a.0 are.0 (was_ok (BadChain number) (next_set house recs set link) a.0 a.1) in
    (a.0, n.0, n.1, last_back house recs (suc number) a.0 links last are.1 a.2)

abbrev vouching : SetTold → Claim → ℕ → Result Certified ClaimFault
vouching set claim counted = Ok (certified_by set claim)

vouched_back : (house : Id) (set : SetTold) (claim : Claim) (told : Certified) → certified_for house set claim ≡ Ok told → (counted : ℕ) × (quorum_of set (vouched_for set claim) claim.sigs ≡ Ok counted)
unfolding certified_for
vouched_back house set claim told e =
    let a = let_by _ _ (or_fault BadQuorum (quorum_of set (vouched_for set claim) claim.sigs) >>= vouching set claim) told e in
    let b = bind_ok (or_fault BadQuorum (quorum_of set (vouched_for set claim) claim.sigs)) (vouching set claim) told a.1 in
    (b.0, was_ok BadQuorum (quorum_of set (vouched_for set claim) claim.sigs) b.0 b.1)

certified_back : (genesis : SetTold) (claim : Claim) (told : Certified) → HasByteRings claim → certified_of genesis claim ≡ Ok told → (set : SetTold) × Certifies genesis claim set × (told ≡ certified_by set claim)
unfolding certified_of
certified_back genesis claim told are e =
    let house : Id = id_of_set genesis in
    let a = bind_ok (last_set (id_of_set genesis) claim.recs 0 genesis claim.links) (λ set. certified_for (id_of_set genesis) set claim) told e in
    let t = told_there (id_of_set genesis) a.0 claim told a.2 in
    let v = vouched_back (id_of_set genesis) a.0 claim told a.2 in
    let q = (quorum_found a.0 (vouched_for a.0 claim) claim.sigs v.0 are.sigs).0 v.1 in
    let chain = last_back (id_of_set genesis) claim.recs 0 genesis claim.links a.0 are.links a.1 in
    (a.0, record { chain = chain; vouched = record { head = t.0; quorum = q.0 } }, t.1)

pub certificate_is : (genesis : SetTold) (claim : Claim) (told : Certified) → HasByteRings claim → (certified_of genesis claim ≡ Ok told) ↔ ((set : SetTold) × Certifies genesis claim set × (told ≡ certified_by set claim))
certificate_is genesis claim told are =
    let made : Certified → Result Certified ClaimFault = λ t. Ok t in
    (certified_back genesis claim told are, λ (set, certifies, is). certified_there genesis claim set certifies ∙ ap made (sym is))
