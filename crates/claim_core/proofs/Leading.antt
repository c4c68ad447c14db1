-- Links that lead on have no fault, and a claim that certifies has none.
use Rattle.std.proofs.Common.{◌≡◌, ℕ, ◌+◌, ◌<◌, ◌≤◌, ◌==◌, suc, Bool, true, false, not, cond, ltb, nat_le, List, [], ◌∷◌, length, take, drop, get_or, Result, Ok, Err, IfOk, refl, sym, ap, subst, ◌∙◌, zero, arith}
use Rattle.std.specs.List.{AllByRecursion}
use Rattle.std.proofs.lemmas.Bool.{le-leb, leb-true, le-ltb, eq-eqb, eqb-true, and_parts}
use Rattle.std.proofs.lemmas.List.{at_drop_more, drop_all}
use Rattle.dh_base.specs.declared.id.Id.{Id}
use Rattle.dh_base.specs.Ids.{same_id}
use Rattle.dh_base.specs.Fields.{◌>>=◌}
use Rattle.dh_base.specs.Formats.{or_fault}
use Rattle.dh_base.proofs.SameIds.{same_from_id, id_from_same}
use Rattle.dh_base.proofs.Fields.{bind_ok}
use Rattle.vote_log.specs.Entry.{Entry}
use Rattle.vote_log.specs.Heads.{head_after}
use Rattle.cert_core.specs.Sets.{SetTold, id_of_set}
use Rattle.cert_core.specs.SetReading.{set_of}
use Rattle.cert_core.specs.SeatTexts.{handover_text, prefix_text}
use Rattle.cert_core.specs.Quorums.{IsQuorum, quorum_size, quorum_of}
use Rattle.cert_core.specs.declared.seat_sig.SeatSig.{SeatSig}
use Rattle.cert_core.proofs.SeatSigs.{no_fault}
use Rattle.claim_core.specs.declared.link.Link.{Link}
use Rattle.claim_core.specs.declared.claim.Claim.{Claim}
use Rattle.claim_core.specs.declared.certificate.Certified.{Certified}
use Rattle.claim_core.specs.declared.claim_fault.ClaimFault.{ClaimFault}
use Rattle.claim_core.specs.declared.claim_fault.ClaimFault.TheVariants.{BadChain, WrongHead, BadQuorum}
use Rattle.claim_core.specs.declared.link_fault.LinkFault.{LinkFault}
use Rattle.claim_core.specs.declared.link_fault.LinkFault.TheVariants.{BadSet, WrongEpoch}
use Rattle.claim_core.specs.Chains.{handed_over, HandsOver, IsOnPath, ChainLeadsTo}
use Rattle.claim_core.specs.Certificates.{vouched_for, Certifies, certified_by}
use Rattle.claim_core.specs.FirstBroken.{is_on_path, named_set, next_set, last_set, certified_for, certified_of}

counted : (set : SetTold) (text : List ℕ) (sigs : List SeatSig) → IsQuorum set text sigs → quorum_of set text sigs ≡ Ok (length sigs)
counted set text sigs q =
    let enough : ltb (length sigs) (quorum_size set) ≡ false = le-ltb (length sigs) (quorum_size set) q.enough in
    rw (no_fault set text sigs q, enough) refl

on_path : (house : Id) (recs : List Entry) (link : Link) → IsOnPath house recs link → is_on_path house recs link ≡ true
on_path house recs link p =
    rw (le-leb link.len (length recs) p.within, same_from_id (head_after house (take link.len recs)) link.head (sym p.head)) refl

pub next_there : (house : Id) (recs : List Entry) (set : SetTold) (link : Link) (next : SetTold) → HandsOver set link next → IsOnPath house recs link → next_set house recs set link ≡ Ok next
unfolding named_set next_set
next_there house recs set link next h p =
    rw (h.reads, eq-eqb next.epoch (set.epoch + 1) h.epoch, on_path house recs link p, counted set _ link.sigs h.quorum) refl

abbrev pub onward : Id → List Entry → ℕ → List Link → SetTold → Result SetTold ClaimFault
onward house recs number links next = last_set house recs (suc number) next links

pub last_there : (house : Id) (recs : List Entry) (number : ℕ) (set : SetTold) (links : List Link) (last : SetTold) → ChainLeadsTo house recs set links last → last_set house recs number set links ≡ Ok last
last_there house recs number set [] last e = (let made : SetTold → Result SetTold ClaimFault = λ s. Ok s in ap made e)
last_there house recs number set (link ∷ links) last (next, hands, path, rest) =
    ap (λ (r : Result SetTold LinkFault). or_fault (BadChain number) r >>= onward house recs number links) (next_there house recs set link next hands path)
    ∙ last_there house recs (suc number) next links last rest

pub certified_there : (genesis : SetTold) (claim : Claim) (set : SetTold) → Certifies genesis claim set → certified_of genesis claim ≡ Ok (certified_by set claim)
unfolding certified_of certified_for
certified_there genesis claim set s =
    let head : same_id (head_after (id_of_set genesis) claim.recs) claim.head ≡ true = same_from_id (head_after (id_of_set genesis) claim.recs) claim.head (sym s.vouched.head) in
    rw (last_there (id_of_set genesis) claim.recs 0 genesis claim.links set s.chain, head, counted set _ claim.sigs s.vouched.quorum) refl

-- ---- one link after another

pub all_at : {X : Type 0} (P : X → Type 0) (xs : List X) (k : ℕ) (x : X) → AllByRecursion P xs → k < length xs → x ≡ get_or xs k x → P x
all_at P [] k x all h is = absurd (omega arith)
all_at P (y ∷ ys) zero x all h is = subst P (sym is) all.0
all_at P (y ∷ ys) (suc k) x all h is = all_at P ys k x all.1 (omega arith) is

abbrev with_epoch : SetTold → SetTold → Result SetTold LinkFault
with_epoch set next = cond (next.epoch == set.epoch + 1) (Ok next) (Err (WrongEpoch (set.epoch + 1) next.epoch))

pub was_ok : {A E F : Type 0} (of : E → F) (r : Result A E) (x : A) → or_fault of r ≡ Ok x → r ≡ Ok x
was_ok of (Ok y) x e = cc
was_ok of (Err d) x e = absurd cc

passed : {A F : Type 0} (b : Bool) (x y : A) (d : F) → cond b (Ok x) (Err d) ≡ Ok y → (b ≡ true) × (x ≡ y)
passed true x y d e = (refl, cc)
passed false x y d e = absurd cc

pub named_there : (set : SetTold) (link : Link) (next : SetTold) → named_set set link ≡ Ok next → (set_of link.set_text ≡ Ok next) × (next.epoch ≡ set.epoch + 1)
unfolding named_set
named_there set link next e =
    let a = bind_ok (or_fault BadSet (set_of link.set_text)) (with_epoch set) next e in
    let b = passed (a.0.epoch == set.epoch + 1) a.0 next (WrongEpoch (set.epoch + 1) a.0.epoch) a.2 in
    let read : set_of link.set_text ≡ Ok a.0 = was_ok BadSet (set_of link.set_text) a.0 a.1 in
    let epoch : a.0.epoch ≡ set.epoch + 1 = eqb-true a.0.epoch (set.epoch + 1) b.0 in
    subst (λ (s : SetTold). (set_of link.set_text ≡ Ok s) × (s.epoch ≡ set.epoch + 1)) b.1 (read, epoch)

pub path_there : (house : Id) (recs : List Entry) (link : Link) → is_on_path house recs link ≡ true → IsOnPath house recs link
path_there house recs link e =
    let p = and_parts (nat_le link.len (length recs)) (same_id (head_after house (take link.len recs)) link.head) e in
    record { within = leb-true link.len (length recs) p.0; head = sym (id_from_same (head_after house (take link.len recs)) link.head p.1) }

handed_over_is : (set next : SetTold) (link : Link) (own other : Id) (text : List ℕ) (sigs : List SeatSig) → own ≡ id_of_set set → other ≡ id_of_set next → text ≡ handover_text own link.len link.head other → sigs ≡ link.sigs → IsQuorum set text sigs → IsQuorum set (handed_over set link next) link.sigs
handed_over_is set next link own other text sigs is_own is_other is_text is_sigs q =
    let signed : text ≡ handed_over set link next = is_text ∙ (ap (λ (i : Id). handover_text i link.len link.head other) is_own ∙ ap (handover_text (id_of_set set) link.len link.head) is_other) in
    subst (λ (t : List ℕ). IsQuorum set t link.sigs) signed (subst (IsQuorum set text) is_sigs q)

-- a link without fault leads on
pub leads_on : (house : Id) (recs : List Entry) (set : SetTold) (link : Link) (next : SetTold) (own other : Id) (text : List ℕ) (sigs : List SeatSig) → named_set set link ≡ Ok next → is_on_path house recs link ≡ true
    → own ≡ id_of_set set → other ≡ id_of_set next → text ≡ handover_text own link.len link.head other → sigs ≡ link.sigs → IsQuorum set text sigs → HandsOver set link next × IsOnPath house recs link
leads_on house recs set link next own other text sigs named path is_own is_other is_text is_sigs q =
    let n = named_there set link next named in
    (record { reads = n.0; epoch = n.1; quorum = handed_over_is set next link own other text sigs is_own is_other is_text is_sigs q }, path_there house recs link path)

-- ---- a walk along the links

-- what is left of a chain is left of the whole
pub link_next : (house : Id) (recs : List Entry) (genesis set next : SetTold) (links : List Link) (k : ℕ) (link : Link) → k < length links → link ≡ get_or links k link → HandsOver set link next → IsOnPath house recs link
    → ((last : SetTold) → ChainLeadsTo house recs set (drop k links) last → ChainLeadsTo house recs genesis links last)
    → (last : SetTold) → ChainLeadsTo house recs next (drop (k + 1) links) last → ChainLeadsTo house recs genesis links last
link_next house recs genesis set next links k link h is hands path so_far last rest =
    let here : ChainLeadsTo house recs set (link ∷ drop (k + 1) links) last = (next, hands, path, rest) in
    let parts : drop k links ≡ link ∷ drop (k + 1) links = at_drop_more (λ (ls : List Link). ls) links k link h ∙ ap (λ (l : Link). l ∷ drop (k + 1) links) (sym is) in
    so_far last (subst (λ (ls : List Link). ChainLeadsTo house recs set ls last) (sym parts) here)

from_place : (house : Id) (recs : List Entry) (set : SetTold) (links : List Link) (k : ℕ) (link : Link) → k < length links → link ≡ get_or links k link → last_set house recs k set (drop k links) ≡ (or_fault (BadChain k) (next_set house recs set link) >>= onward house recs k (drop (k + 1) links))
from_place house recs set links k link h is =
    at_drop_more (last_set house recs k set) links k link h
    ∙ ap (λ (l : Link). last_set house recs k set (l ∷ drop (k + 1) links)) (sym is)

pub last_next : (house : Id) (recs : List Entry) (set next : SetTold) (links : List Link) (k : ℕ) (link : Link) → k < length links → link ≡ get_or links k link → next_set house recs set link ≡ Ok next → last_set house recs (k + 1) next (drop (k + 1) links) ≡ last_set house recs k set (drop k links)
last_next house recs set next links k link h is e =
    let one : k + 1 ≡ suc k = omega arith in
    sym (from_place house recs set links k link h is
    ∙ (ap (λ (r : Result SetTold LinkFault). or_fault (BadChain k) r >>= onward house recs k (drop (k + 1) links)) e
    ∙ ap (λ (n : ℕ). last_set house recs n next (drop (k + 1) links)) (sym one)))

pub last_broken : (house : Id) (recs : List Entry) (set : SetTold) (links : List Link) (k : ℕ) (link : Link) (fault : LinkFault) → k < length links → link ≡ get_or links k link → next_set house recs set link ≡ Err fault → last_set house recs k set (drop k links) ≡ Err (BadChain k fault)
last_broken house recs set links k link fault h is e =
    from_place house recs set links k link h is
    ∙ ap (λ (r : Result SetTold LinkFault). or_fault (BadChain k) r >>= onward house recs k (drop (k + 1) links)) e

pub last_end : (house : Id) (recs : List Entry) (set : SetTold) (links : List Link) (k : ℕ) → length links ≤ k → last_set house recs k set (drop k links) ≡ Ok set
last_end house recs set links k h = ap (last_set house recs k set) (drop_all k links h)

pub chain_end : (house : Id) (recs : List Entry) (genesis set : SetTold) (links : List Link) (k : ℕ) → length links ≤ k
    → ((last : SetTold) → ChainLeadsTo house recs set (drop k links) last → ChainLeadsTo house recs genesis links last)
    → ChainLeadsTo house recs genesis links set
chain_end house recs genesis set links k h so_far =
    so_far set (subst (λ (ls : List Link). ChainLeadsTo house recs set ls set) (sym (drop_all k links h)) refl)

-- ---- a whole claim

pub vouched_there : (set : SetTold) (claim : Claim) (own : Id) (recs : List Entry) (text : List ℕ) (sigs : List SeatSig) → own ≡ id_of_set set → recs ≡ claim.recs → text ≡ prefix_text own (length recs) claim.head → sigs ≡ claim.sigs → IsQuorum set text sigs → IsQuorum set (vouched_for set claim) claim.sigs
vouched_there set claim own recs text sigs is_own is_recs is_text is_sigs q =
    let signed : text ≡ vouched_for set claim = is_text ∙ (ap (λ (i : Id). prefix_text i (length recs) claim.head) is_own ∙ ap (λ (rs : List Entry). prefix_text (id_of_set set) (length rs) claim.head) is_recs) in
    subst (λ (t : List ℕ). IsQuorum set t claim.sigs) signed (subst (IsQuorum set text) is_sigs q)

abbrev told_by : SetTold → Claim → ℕ → Result Certified ClaimFault
told_by set claim counted = Ok (certified_by set claim)

pub let_by : {A F : Type 0} (b : Bool) (d : F) (r : Result A F) (y : A) → cond (not b) (Err d) r ≡ Ok y → (b ≡ true) × (r ≡ Ok y)
let_by true d r y e = (refl, e)
let_by false d r y e = absurd cc

-- what is told of a claim without fault
pub told_there : (house : Id) (set : SetTold) (claim : Claim) (told : Certified) → certified_for house set claim ≡ Ok told → (claim.head ≡ head_after house claim.recs) × (told ≡ certified_by set claim)
unfolding certified_for
told_there house set claim told e =
    let a = let_by (same_id (head_after house claim.recs) claim.head) (WrongHead (head_after house claim.recs) claim.head) (or_fault BadQuorum (quorum_of set (vouched_for set claim) claim.sigs) >>= told_by set claim) told e in
    let b = bind_ok (or_fault BadQuorum (quorum_of set (vouched_for set claim) claim.sigs)) (told_by set claim) told a.1 in
    let is : told ≡ certified_by set claim = (let h : told_by set claim b.0 ≡ Ok told = b.2 in cc) in
    (sym (id_from_same (head_after house claim.recs) claim.head a.0), is)

pub certificate_found : (genesis : SetTold) (claim : Claim) (set : SetTold) (house : Id) (recs : List Entry) (links : List Link) (r : Result Certified ClaimFault) → house ≡ id_of_set genesis → recs ≡ claim.recs → links ≡ claim.links → ChainLeadsTo house recs genesis links set
    → r ≡ certified_for house set claim → IfOk r (λ told. IsQuorum set (vouched_for set claim) claim.sigs)
    → IfOk r (λ told. (last : SetTold) × Certifies genesis claim last × (told ≡ certified_by last claim))
certificate_found genesis claim set house recs links (Ok told) is_house is_recs is_links chain exact quorum =
    let one : ChainLeadsTo (id_of_set genesis) recs genesis links set = subst (λ (h : Id). ChainLeadsTo h recs genesis links set) is_house chain in
    let two : ChainLeadsTo (id_of_set genesis) claim.recs genesis links set = subst (λ (rs : List Entry). ChainLeadsTo (id_of_set genesis) rs genesis links set) is_recs one in
    let three : ChainLeadsTo (id_of_set genesis) claim.recs genesis claim.links set = subst (λ (ls : List Link). ChainLeadsTo (id_of_set genesis) claim.recs genesis ls set) is_links two in
    let t = told_there house set claim told (sym exact) in
    let head : claim.head ≡ head_after (id_of_set genesis) claim.recs = t.0 ∙ ap (λ (h : Id). head_after h claim.recs) is_house in
    (set, record { chain = three; vouched = record { head = head; quorum = quorum } }, t.1)
certificate_found genesis claim set house recs links (Err fault) is_house is_recs is_links chain exact quorum = tt
