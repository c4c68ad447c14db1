-- Along chains of handovers.
use Rattle.std.proofs.Common.{◌≡◌, ℕ, ◌+◌, ◌<◌, ◌^◌, Ok, List, [], ◌∷◌, ◌++◌, length, take, map, Contains, refl, ap, sym, ◌∙◌, subst, append_assoc, length-take-le, arith}
use Rattle.std.proofs.lemmas.List.{append-nil, length-map, get_or-map}
use Rattle.std.proofs.lemmas.List.Elements.{Contains-append_right}
use mathlib.Core.List.{IsPrefix}
use Rattle.sha2.specs.Sha256.{sha256}
use Rattle.sha2.proofs.Facts256.{length-sha256}
use Rattle.dh_base.specs.declared.id.Id.{Id}
use Rattle.dh_base.specs.Fields.{AreBytes}
use Rattle.vote_log.specs.Entry.{Entry}
use Rattle.vote_log.specs.Heads.{head_after}
use Rattle.cert_core.specs.Sets.{SetTold, HasSeats, set_text, id_of_set}
use Rattle.cert_core.specs.SetReading.{set_of}
use Rattle.cert_core.specs.SeatTexts.{SeatText, Prefix, Handover, HasWidths}
use Rattle.cert_core.proofs.SetTexts.{set-read}
use Rattle.claim_core.specs.declared.link.Link.{Link}
use Rattle.claim_core.specs.declared.claim.Claim.{Claim}
use Rattle.claim_core.specs.Chains.{HandsOver, IsOnPath, ChainLeadsTo}
use Rattle.one_log.specs.Houses.{House, Chain, OneBegins, chain_of, house_of, IsDelivered, Reaches, IsCertified, by_claim, by_link}
use Rattle.one_log.specs.Premises.{IsHashed, of_link, HasFewDeviants, AreUnforgedSigs}
use Rattle.one_log.proofs.Lists.{every_at, take_begins, begins_on, two_begin}
use Rattle.one_log.proofs.Kept.{delivered, head_wide, ClaimKept}
use Rattle.one_log.proofs.Signed.{IsFair, IsListed, chain_listed, front_listed, Names, own_begins, own_whole, both, Backed, two_backed, HeldBySeat, backed_held}

-- the handover text of a link from a set to the next
abbrev handover : SetTold → Link → SetTold → SeatText
handover set link next = Handover (id_of_set set) link.len link.head (id_of_set next)

record SetKept (w : House) (set : SetTold) : Type 0 where
  has : HasSeats set
  few : HasFewDeviants w set

-- a step of a way on the records
record Step (w : House) (recs : List Entry) (set : SetTold) (link : Link) (next : SetTold) : Type 0 where
  from : SetKept w set
  over : HandsOver set link next
  path : IsOnPath (house_of w) recs link
  few : length recs < 2 ^ 32
  real : AreUnforgedSigs w link.sigs
  bytes : AreBytes link.set_text
  hashed : IsHashed w link.set_text

-- the way along links from a set to the last one
abbrev Way : House → List Entry → SetTold → List Link → SetTold → Type 0
Way w recs set [] last = SetKept w set × (set ≡ last)
Way w recs set (link ∷ links) last = (next : SetTold) × Step w recs set link next × Way w recs next links last

-- ---- chains

path_push : (house : Id) (recs : List Entry) (s u v : SetTold) (front : List Link) (link : Link) → ChainLeadsTo house recs s front u → HandsOver u link v → IsOnPath house recs link → ChainLeadsTo house recs s (front ++ link ∷ []) v
path_push house recs s u v [] link p over on = (v, subst (λ x. HandsOver x link v) (sym p) over, on, refl)
path_push house recs s u v (j ∷ front) link p over on = (p.0, p.1, p.2, path_push house recs p.0 u v front link p.3 over on)

-- the last link of a chain
record LastLink (house : Id) (recs : List Entry) (s : SetTold) (front : List Link) (link : Link) (t : SetTold) : Type 0 where
  from : SetTold
  before : ChainLeadsTo house recs s front from
  over : HandsOver from link t
  path : IsOnPath house recs link

path_last : (house : Id) (recs : List Entry) (s t : SetTold) (front : List Link) (link : Link) → ChainLeadsTo house recs s (front ++ link ∷ []) t → LastLink house recs s front link t
path_last house recs s t [] link p = record { from = s; before = refl; over = subst (λ x. HandsOver s link x) p.3 p.1; path = p.2 }
path_last house recs s t (j ∷ front) link p =
    let r = path_last house recs p.0 t front link p.3 in
    record { from = r.from; before = (p.0, p.1, p.2, r.before); over = r.over; path = r.path }

link_among : (front : List Link) (link : Link) (rest : List Link) (chain : Chain) → front ++ (link ∷ rest) ≡ chain.links → Contains chain.links link
link_among front link rest chain e = subst (λ links. Contains links link) e (Contains-append_right front (link ∷ rest) link (0, omega arith, refl))

-- what is read from bytes has seats, and the bytes are its text
has_seats : (text : List ℕ) (next : SetTold) → AreBytes text → set_of text ≡ Ok next → HasSeats next
has_seats text next bytes reads = ((set-read text next bytes).0 reads).0.has

module _ (w : House) (fair : IsFair w) where
  set_kept : (chain : Chain) (front rest : List Link) (set : SetTold) → HasSeats set → IsDelivered w chain → front ++ rest ≡ chain.links → ChainLeadsTo (house_of w) chain.records w.genesis front set → SetKept w set
  set_kept chain front rest set has d e before = record { has = has; few = fair.honest_quorums chain front set (record { delivered = d; rest = rest; parts = e; leads = before }) }

  way_from : (chain : Chain) (front todo rest : List Link) (s t : SetTold) → HasSeats s → IsDelivered w chain → front ++ (todo ++ rest) ≡ chain.links → ChainLeadsTo (house_of w) chain.records w.genesis front s → ChainLeadsTo (house_of w) chain.records s todo t → Way w chain.records s todo t
  way_from chain front [] rest s t has d e before p = (set_kept chain front rest s has d e before, p)
  way_from chain front (link ∷ todo) rest s t has d e before p =
      let among = link_among front link (todo ++ rest) chain e in
      let kept = delivered w chain fair.kept d in
      let bytes : AreBytes link.set_text = every_at (λ (l : Link). AreBytes l.set_text) chain.links link kept.held.texts among in (
        p.0,
        record {
          from = set_kept chain front ((link ∷ todo) ++ rest) s has d e before;
          over = p.1;
          path = p.2;
          few = kept.held.few;
          real = every_at (λ (l : Link). AreUnforgedSigs w l.sigs) chain.links link kept.unforged among;
          bytes = bytes;
          hashed = of_link chain link d among refl;
        },
        way_from chain (front ++ link ∷ []) todo rest p.0 t (has_seats link.set_text p.0 bytes p.1.reads) d (append_assoc front (link ∷ []) (todo ++ rest) ∙ e)
            (path_push (house_of w) chain.records w.genesis s p.0 front link before p.1 p.2) p.3,
      )

  way_of : (chain : Chain) (front : List Link) (t : SetTold) → Reaches w chain front t → Way w chain.records w.genesis front t
  way_of chain front t r = way_from chain [] front r.rest w.genesis t fair.kept.genesis r.delivered r.parts refl r.leads

  way_end : (recs : List Entry) (s t : SetTold) (links : List Link) → Way w recs s links t → SetKept w t
  way_end recs s t [] p = subst (λ x. SetKept w x) p.1 p.0
  way_end recs s t (link ∷ links) p = way_end recs p.0 t links p.2

  -- ---- two ways

  handover_wide : (recs : List Entry) (s n : SetTold) (link : Link) → Step w recs s link n → HasWidths (handover s link n)
  handover_wide recs s n link step = (
    length-sha256 (set_text s),
    (let h = step.path.within in let f = step.few in omega arith),
    ap (λ (i : Id). length i.0) step.path.head ∙ head_wide (house_of w) (take link.len recs),
  )

  -- what a link's quorum says names the front of the records
  step_names : (recs : List Entry) (s n : SetTold) (link : Link) → Step w recs s link n → Names w (take link.len recs) (handover s link n)
  step_names recs s n link step = (sym (length-take-le link.len recs step.path.within), step.path.head)

  -- sets of one id that chains name are one set
  same_set : (one two : List ℕ) (n m : SetTold) → AreBytes one → AreBytes two → IsHashed w one → IsHashed w two → set_of one ≡ Ok n → set_of two ≡ Ok m → id_of_set n ≡ id_of_set m → n ≡ m
  same_set one two n m b c hn hm rn rm ids =
      let tn : one ≡ set_text n = ((set-read one n b).0 rn).1 in
      let tm : two ≡ set_text m = ((set-read two m c).0 rm).1 in
      let hashes : sha256 (set_text n) ≡ sha256 (set_text m) = ap (λ (i : Id). i.0) ids in
      let same : one ≡ two = fair.collision_free one two hn hm (ap sha256 tn ∙ hashes ∙ ap sha256 (sym tm)) in
      let read : set_of one ≡ set_of two = ap set_of same in
      let oks : Ok n ≡ Ok m = sym rn ∙ read ∙ rm in
      cc

  -- two links from one set lead to one set
  same_next : (s n m : SetTold) (k j : Link) (recs more : List Entry) → Step w recs s k n → Step w more s j m → n ≡ m
  same_next s n m k j recs more p q =
      let b = both w fair s (handover s k n) (handover s j m) k.sigs j.sigs p.from.has p.from.few p.over.quorum q.over.quorum p.real q.real (handover_wide recs s n k p) (handover_wide more s m j q) in
      let ids : id_of_set n ≡ id_of_set m = cc (b.one.3, b.two.3) in
      same_set k.set_text j.set_text n m p.bytes q.bytes p.hashed q.hashed p.over.reads q.over.reads ids

  same_sets : (s t u : SetTold) (ks js : List Link) (recs more : List Entry) → length ks ≡ length js → Way w recs s ks t → Way w more s js u → t ≡ u
  same_sets s t u [] [] recs more len p q = sym p.1 ∙ q.1
  same_sets s t u [] (j ∷ js) recs more len p q = absurd (omega arith)
  same_sets s t u (k ∷ ks) [] recs more len p q = absurd (omega arith)
  same_sets s t u (k ∷ ks) (j ∷ js) recs more len p q =
      let e : p.0 ≡ q.0 = same_next s p.0 q.0 k j recs more p.1 q.1 in
      same_sets p.0 t u ks js recs more (omega arith) p.2 (subst (λ x. Way w more x js u) (sym e) q.2)

  way_epoch : (recs : List Entry) (s t : SetTold) (links : List Link) → Way w recs s links t → t.epoch ≡ s.epoch + length links
  way_epoch recs s t [] p = omega (arith, ap (λ (x : SetTold). x.epoch) p.1)
  way_epoch recs s t (link ∷ links) p = omega (arith, p.1.over.epoch, way_epoch recs p.0 t links p.2)

  pub one_set : (chain more : Chain) (front ahead : List Link) (s t : SetTold) → Reaches w chain front s → Reaches w more ahead t → s.epoch ≡ t.epoch → s ≡ t
  one_set chain more front ahead s t r q same =
      let a = way_of chain front s r in
      let b = way_of more ahead t q in
      let len : length front ≡ length ahead = omega (arith, way_epoch chain.records w.genesis s front a, way_epoch more.records w.genesis t ahead b) in
      same_sets w.genesis s t front ahead chain.records more.records len a b

  -- a list that a quorum of the set backs begins what the set hands over
  below_handover : (s n : SetTold) (x : List Entry) (link : Link) (recs : List Entry) → IsListed w recs → Backed w s x → Step w recs s link n → IsPrefix x recs
  below_handover s n x link recs listed bx step =
      let b = both w fair s bx.text (handover s link n) bx.sigs link.sigs step.from.has step.from.few bx.quorum step.over.quorum bx.real step.real bx.wide (handover_wide recs s n link step) in
      let first = own_begins w fair.collision_free b.seat x bx.text b.listed bx.listed bx.names b.one in
      let whole = own_whole w fair.collision_free b.seat (take link.len recs) (id_of_set s) link.len link.head (id_of_set n) b.listed (front_listed w link.len recs listed) (step_names recs s n link step) b.two in
      begins_on x (take link.len recs) recs (subst (λ l. IsPrefix x l) (sym whole) first) (take_begins link.len recs)

  lists_begin : (s t u : SetTold) (ks js : List Link) (recs more x y : List Entry) → Way w recs s ks t → Way w more s js u → IsListed w recs → IsListed w more → Backed w t x → Backed w u y → IsPrefix x recs → IsPrefix y more → OneBegins x y
  lists_begin s t u [] [] recs more x y p q lr lm bx by px py =
      two_backed w fair s x y p.0.has p.0.few (subst (λ v. Backed w v x) (sym p.1) bx) (subst (λ v. Backed w v y) (sym q.1) by)
  lists_begin s t u [] (j ∷ js) recs more x y p q lr lm bx by px py =
      two_begin x y more (below_handover s q.0 x j more lm (subst (λ v. Backed w v x) (sym p.1) bx) q.1) py
  lists_begin s t u (k ∷ ks) [] recs more x y p q lr lm bx by px py =
      two_begin x y recs px (below_handover s p.0 y k recs lr (subst (λ v. Backed w v y) (sym q.1) by) p.1)
  lists_begin s t u (k ∷ ks) (j ∷ js) recs more x y p q lr lm bx by px py =
      let e : p.0 ≡ q.0 = same_next s p.0 q.0 k j recs more p.1 q.1 in
      lists_begin p.0 t u ks js recs more x y p.2 (subst (λ v. Way w more v js u) (sym e) q.2) lr lm bx by px py

-- ---- certified lists

-- a certified list, with the set whose quorum backs it
record Placed (w : House) (x : List Entry) : Type 0 where
  chain : Chain
  front : List Link
  set : SetTold
  reaches : Reaches w chain front set
  backed : Backed w set x
  begins : IsPrefix x chain.records

claim_delivered : (w : House) (claim : Claim) → Contains w.claims claim → IsDelivered w (chain_of claim)
claim_delivered w claim h = Contains-append_right w.chains (map chain_of w.claims) (chain_of claim) (h.0, omega (arith, length-map w.claims chain_of, h.1), get_or-map chain_of w.claims h.0 claim (chain_of claim) h.1 ∙ ap chain_of h.2)

prefix_of : SetTold → Claim → SeatText
prefix_of set claim = Prefix (id_of_set set) (length claim.recs) claim.head

placed : (w : House) → IsFair w → (x : List Entry) → IsCertified w x → Placed w x
placed w fair x (by_claim claim set among cert is) =
    let d = claim_delivered w claim among in
    let kept : ClaimKept w claim = every_at (ClaimKept w) w.claims claim fair.kept.claims among in
    record {
      chain = chain_of claim;
      front = claim.links;
      set = set;
      reaches = record { delivered = d; rest = []; parts = append-nil claim.links; leads = cert.chain };
      backed = record {
        text = Prefix (id_of_set set) (length claim.recs) claim.head;
        wide = (length-sha256 (set_text set), kept.held.few, ap (λ (i : Id). length i.0) cert.vouched.head ∙ head_wide (house_of w) claim.recs);
        names = (ap length (sym is), cert.vouched.head ∙ ap (head_after (house_of w)) (sym is));
        sigs = claim.sigs;
        quorum = cert.vouched.quorum;
        real = kept.unforged.sigs;
        listed = subst (IsListed w) (sym is) (chain_listed w (chain_of claim) fair.kept d);
      };
      begins = subst (λ l. IsPrefix l claim.recs) (sym is) ([], append-nil claim.recs);
    }
placed w fair x (by_link chain front link set r is) =
    let last = path_last (house_of w) chain.records w.genesis set front link r.leads in
    let parts : front ++ (link ∷ r.rest) ≡ chain.links = sym (append_assoc front (link ∷ []) r.rest) ∙ r.parts in
    let kept = delivered w chain fair.kept r.delivered in
    let among = link_among front link r.rest chain parts in
    record {
      chain = chain;
      front = front;
      set = last.from;
      reaches = record { delivered = r.delivered; rest = link ∷ r.rest; parts = parts; leads = last.before };
      backed = record {
        text = handover last.from link set;
        wide = (length-sha256 (set_text last.from), (let h = last.path.within in let f = kept.held.few in omega arith), ap (λ (i : Id). length i.0) last.path.head ∙ head_wide (house_of w) (take link.len chain.records));
        names = subst (λ l. Names w l (handover last.from link set)) (sym is) (sym (length-take-le link.len chain.records last.path.within), last.path.head);
        sigs = link.sigs;
        quorum = last.over.quorum;
        real = every_at (λ (l : Link). AreUnforgedSigs w l.sigs) chain.links link kept.unforged among;
        listed = subst (IsListed w) (sym is) (front_listed w link.len chain.records (chain_listed w chain fair.kept r.delivered));
      };
      begins = subst (λ l. IsPrefix l chain.records) (sym is) (take_begins link.len chain.records);
    }

pub one_log_lists : (w : House) → IsFair w → (x y : List Entry) → IsCertified w x → IsCertified w y → OneBegins x y
one_log_lists w fair x y cx cy =
    let a = placed w fair x cx in
    let b = placed w fair y cy in
    lists_begin w fair w.genesis a.set b.set a.front b.front a.chain.records b.chain.records x y
    (way_of w fair a.chain a.front a.set a.reaches) (way_of w fair b.chain b.front b.set b.reaches)
    (chain_listed w a.chain fair.kept a.reaches.delivered) (chain_listed w b.chain fair.kept b.reaches.delivered) a.backed b.backed a.begins b.begins

-- a certified list begins that of a compliant seat
pub certified_held : (w : House) → IsFair w → (x : List Entry) → IsCertified w x → HeldBySeat w x
certified_held w fair x cx =
    let a = placed w fair x cx in
    let k = way_end w fair a.chain.records w.genesis a.set a.front (way_of w fair a.chain a.front a.set a.reaches) in
    backed_held w fair a.set x k.has k.few a.backed
