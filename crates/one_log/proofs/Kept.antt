-- What each moment keeps: seats have signed texts of their own lists, and what was delivered is
-- unforged.
use Rattle.std.proofs.Common.{◌≡◌, ℕ, Bool, true, false, cond, Option, Some, None, List, [], ◌∷◌, ◌++◌, length, take, map, Contains, slice_get, refl, ap, sym, ◌∙◌, subst, ⊎_elim, arith, length-append}
use Rattle.std.specs.Option.{option_map}
use Rattle.std.specs.List.{AllByRecursion}
use Rattle.std.proofs.lemmas.List.{take-append-le}
use Rattle.std.proofs.lemmas.List.Elements.{Contains-append_cases}
use Rattle.sha2.proofs.Facts256.{length-sha256}
use Rattle.dh_base.specs.declared.id.Id.{Id}
use Rattle.dh_base.specs.Ids.{same_id}
use Rattle.key_ring.specs.declared.envelope.Envelope.{Envelope}
use Rattle.vote_log.specs.Entry.{Entry}
use Rattle.vote_log.specs.RecordTexts.{IsRecord}
use Rattle.vote_log.specs.Heads.{start_text, step_text, first_head, next_head, head_from, head_after}
use Rattle.vote_log.proofs.Ids.{same_from_bytes}
use Rattle.cert_core.specs.declared.seat_sig.SeatSig.{SeatSig}
use Rattle.cert_core.specs.Sets.{HasSeats, set_text, id_of_set}
use Rattle.cert_core.specs.SeatTexts.{SeatText, Prefix, Handover, HasWidths, seat_text}
use Rattle.cert_core.proofs.SeatTexts.{one_text}
use Rattle.claim_core.specs.declared.link.Link.{Link}
use Rattle.claim_core.specs.declared.claim.Claim.{Claim}
use Rattle.one_log.specs.Holders.{SeatState, Holder, IsOwn}
use Rattle.one_log.specs.Houses.{House, Chain, chain_of, house_of, IsDelivered}
use Rattle.one_log.specs.Premises.{IsUnforged, AreUnforgedSigs, IsUnforgedChain, IsUnforgedClaim, IsHeld}
use Rattle.one_log.specs.Moments.{SeatChange, Enters, SignsPrefix, Closes, SignsHandover, Begins, Moment, Seats, Signs, Shows, Delivers, seat_after, texts_after, changed, holder_after, claims_of, chains_of, after, after_all, IsSeatStep, IsAgentStep, IsStep, IsRun, IsOpening, DeliversUnforged, AreUnforged}
use Rattle.one_log.proofs.Lists.{every_weaker, every_append, every_at, only, get_append}

-- ---- heads have 32 bytes

from_wide : (head : Id) (l : List Entry) → length head.0 ≡ 32 → length (head_from head l).0 ≡ 32
from_wide head [] wide = wide
from_wide head (e ∷ l) wide = from_wide (next_head head e) l (length-sha256 (step_text head e))

pub head_wide : (house : Id) (l : List Entry) → length (head_after house l).0 ≡ 32
head_wide house l = from_wide (first_head house) l (length-sha256 (start_text house))

-- ---- one seat

abbrev pub HasNoSeatText : List (List ℕ) → Type 0
HasNoSeatText texts = (text : SeatText) → HasWidths text → Contains texts (seat_text text) → ⊥

abbrev pub HasOwnTexts : Id → List (List ℕ) → SeatState → Type 0
HasOwnTexts house texts seat = (text : SeatText) → HasWidths text → Contains texts (seat_text text) → IsOwn house seat text

pub record SeatKept (house : Id) (texts : List (List ℕ)) (seat : SeatState) : Type 0 where
  pub own : HasOwnTexts house texts seat
  pub records : AllByRecursion IsRecord seat.records
  pub unsigned : seat.begun ≡ false → HasNoSeatText texts
  pub empty : seat.begun ≡ false → seat.records ≡ []
  pub unclosed : seat.begun ≡ false → seat.closing ≡ None

-- one text more
pushed : (house : Id) (texts : List (List ℕ)) (seat : SeatState) (mine : SeatText) → HasWidths mine → IsOwn house seat mine → HasOwnTexts house texts seat → HasOwnTexts house (texts ++ seat_text mine ∷ []) seat
pushed house texts seat mine wide is_own own text fits h =
    ⊎_elim
    (λ (old : Contains texts (seat_text text)). own text fits old)
    (λ (new : Contains (seat_text mine ∷ []) (seat_text text)). subst (IsOwn house seat) (one_text mine text wide fits (only (seat_text mine) (seat_text text) new)) is_own)
    (Contains-append_cases texts (seat_text mine ∷ []) (seat_text text) h)

own_entered : (house : Id) (e : Entry) (s : SeatState) (t : SeatText) → s.closing ≡ None → IsOwn house s t → IsOwn house (seat_after (Enters e) s) t
own_entered house e s (Prefix set len head) free own =
    (own.0, omega (arith, own.1, length-append s.records (e ∷ [])), own.2 ∙ ap (head_after house) (sym (take-append-le len s.records (e ∷ []) own.1)))
own_entered house e s (Handover set len head next) free own = absurd (cc (own.3, free))

own_closed : (house next : Id) (s : SeatState) (t : SeatText) → s.closing ≡ None → IsOwn house s t → IsOwn house (seat_after (Closes next) s) t
own_closed house next s (Prefix set len head) free own = own
own_closed house next s (Handover set len head other) free own = absurd (cc (own.3, free))

begun_not : (s : SeatState) (P : Type 0) → s.begun ≡ true → s.begun ≡ false → P
begun_not s P is waits = absurd (cc (is, waits))

abbrev AreHeld : House → Type 0
AreHeld w = (chain : Chain) → IsDelivered w chain → IsHeld chain

seat_kept : (w : House) (c : SeatChange) (texts : List (List ℕ)) (s : SeatState) → AreHeld w → SeatKept (house_of w) texts s → IsSeatStep w s c → SeatKept (house_of w) (texts_after (house_of w) c s texts) (seat_after c s)
seat_kept w (Enters e) texts s held k step = record {
  own = λ t wide h. own_entered (house_of w) e s t step.0.1 (k.own t wide h);
  records = every_append IsRecord s.records (e ∷ []) k.records (step.1, tt);
  unsigned = λ no. begun_not s (HasNoSeatText texts) step.0.0 no;
  empty = λ no. begun_not s (s.records ++ e ∷ [] ≡ []) step.0.0 no;
  unclosed = λ no. begun_not s (s.closing ≡ None) step.0.0 no;
}
seat_kept w (SignsPrefix len) texts s held k step = record {
  own = pushed (house_of w) texts s (Prefix (id_of_set s.set) len (head_after (house_of w) (take len s.records)))
      (length-sha256 (set_text s.set), step.2, head_wide (house_of w) (take len s.records)) (refl, step.1, refl) k.own;
  records = k.records;
  unsigned = λ no. begun_not s (HasNoSeatText (texts_after (house_of w) (SignsPrefix len) s texts)) step.0 no;
  empty = k.empty;
  unclosed = k.unclosed;
}
seat_kept w (Closes next) texts s held k step = record {
  own = λ t wide h. own_closed (house_of w) next s t step.1 (k.own t wide h);
  records = k.records;
  unsigned = k.unsigned;
  empty = k.empty;
  unclosed = λ no. begun_not s (Some next ≡ None) step.0 no;
}
seat_kept w (SignsHandover next) texts s held k step = record {
  own = pushed (house_of w) texts s (Handover (id_of_set s.set) (length s.records) (head_after (house_of w) s.records) next)
      (length-sha256 (set_text s.set), step.1, head_wide (house_of w) s.records) (refl, refl, refl, step.0) k.own;
  records = k.records;
  unsigned = λ no. absurd (cc (k.unclosed no, step.0));
  empty = k.empty;
  unclosed = k.unclosed;
}
seat_kept w (Begins chain) texts s held k step = record {
  own = λ t wide h. absurd (k.unsigned step.0 t wide h);
  records = (held chain step.1.delivered).records;
  unsigned = λ no. absurd cc;
  empty = λ no. absurd cc;
  unclosed = λ no. absurd cc;
}

-- ---- one holder

abbrev pub HolderKept : Id → List (List ℕ) → Option SeatState → Type 0
HolderKept house texts None = HasNoSeatText texts
HolderKept house texts (Some seat) = SeatKept house texts seat

changed_kept : (w : House) (c : SeatChange) (texts : List (List ℕ)) (seat : Option SeatState) → AreHeld w → HolderKept (house_of w) texts seat → ((s : SeatState) → seat ≡ Some s → IsSeatStep w s c)
    → HolderKept (house_of w) (changed (house_of w) c texts seat).texts (changed (house_of w) c texts seat).seat
changed_kept w c texts None held k step = k
changed_kept w c texts (Some s) held k step = seat_kept w c texts s held k (step s refl)

signed_none : (texts : List (List ℕ)) (text : List ℕ) → IsAgentStep text → HasNoSeatText texts → HasNoSeatText (texts ++ text ∷ [])
signed_none texts text step none t wide h =
    ⊎_elim
    (λ (old : Contains texts (seat_text t)). none t wide old)
    (λ (new : Contains (text ∷ []) (seat_text t)). step t (sym (only text (seat_text t) new)))
    (Contains-append_cases texts (text ∷ []) (seat_text t) h)

signed_own : (house : Id) (texts : List (List ℕ)) (text : List ℕ) (s : SeatState) → IsAgentStep text → HasOwnTexts house texts s → HasOwnTexts house (texts ++ text ∷ []) s
signed_own house texts text s step own t wide h =
    ⊎_elim
    (λ (old : Contains texts (seat_text t)). own t wide old)
    (λ (new : Contains (text ∷ []) (seat_text t)). absurd (step t (sym (only text (seat_text t) new))))
    (Contains-append_cases texts (text ∷ []) (seat_text t) h)

signed_kept : (house : Id) (texts : List (List ℕ)) (text : List ℕ) (seat : Option SeatState) → IsAgentStep text → HolderKept house texts seat → HolderKept house (texts ++ text ∷ []) seat
signed_kept house texts text None step k = signed_none texts text step k
signed_kept house texts text (Some s) step k = record {
  own = signed_own house texts text s step k.own;
  records = k.records;
  unsigned = λ no. signed_none texts text step (k.unsigned no);
  empty = k.empty;
  unclosed = k.unclosed;
}

-- what holds of both holders holds of the one that is taken
pub at_key : (P : Holder → Type 0) (b : Bool) (x y : Holder) → (b ≡ true → P x) → P y → P (cond b x y)
at_key P true x y p q = p refl
at_key P false x y p q = q

holder_kept : (w : House) (m : Moment) (own : Id) (h : Holder) → AreHeld w → IsStep w m → w.holders own ≡ Some h → HolderKept (house_of w) h.texts h.seat
    → HolderKept (house_of w) (holder_after (house_of w) m own h).texts (holder_after (house_of w) m own h).seat
holder_kept w (Seats a c) own h held step is k =
    at_key (λ x. HolderKept (house_of w) x.texts x.seat) (same_id a own) (changed (house_of w) c h.texts h.seat) h
    (λ same. changed_kept w c h.texts h.seat held k (λ s here. step h s (ap w.holders (same_from_bytes a own same) ∙ is) here)) k
holder_kept w (Signs a text) own h held step is k =
    at_key (λ x. HolderKept (house_of w) x.texts x.seat) (same_id a own) (record { texts = h.texts ++ text ∷ []; seat = h.seat }) h
    (λ same. signed_kept (house_of w) h.texts text h.seat step k) k
holder_kept w (Shows claim) own h held step is k = k
holder_kept w (Delivers chain) own h held step is k = k

-- ---- texts stay under their keys

changed_texts : (house : Id) (c : SeatChange) (texts : List (List ℕ)) (seat : Option SeatState) (q : ℕ) (text : List ℕ) → slice_get texts q ≡ Some text → slice_get (changed house c texts seat).texts q ≡ Some text
changed_texts house c texts None q text e = e
changed_texts house (Enters entry) texts (Some s) q text e = e
changed_texts house (SignsPrefix len) texts (Some s) q text e = get_append texts _ q text e
changed_texts house (Closes next) texts (Some s) q text e = e
changed_texts house (SignsHandover next) texts (Some s) q text e = get_append texts _ q text e
changed_texts house (Begins chain) texts (Some s) q text e = e

pub texts_stay : (house : Id) (m : Moment) (own : Id) (h : Holder) (q : ℕ) (text : List ℕ) → slice_get h.texts q ≡ Some text → slice_get (holder_after house m own h).texts q ≡ Some text
texts_stay house (Seats a c) own h q text e =
    at_key (λ x. slice_get x.texts q ≡ Some text) (same_id a own) (changed house c h.texts h.seat) h (λ same. changed_texts house c h.texts h.seat q text e) e
texts_stay house (Signs a new) own h q text e =
    at_key (λ x. slice_get x.texts q ≡ Some text) (same_id a own) (record { texts = h.texts ++ new ∷ []; seat = h.seat }) h (λ same. get_append h.texts (new ∷ []) q text e) e
texts_stay house (Shows claim) own h q text e = e
texts_stay house (Delivers chain) own h q text e = e

-- ---- the house

-- the holder before the moment
pub record Before (w : House) (m : Moment) (own : Id) (h : Holder) : Type 0 where
  pub holder : Holder
  pub was : w.holders own ≡ Some holder
  pub becomes : holder_after (house_of w) m own holder ≡ h

mapped : (f : Holder → Holder) (o : Option Holder) (h : Holder) → option_map f o ≡ Some h → (g : Holder) × (o ≡ Some g) × (f g ≡ h)
mapped f None h e = absurd cc
mapped f (Some g) h e = (g, refl, cc)

pub before : (w : House) (m : Moment) (own : Id) (h : Holder) → (after w m).holders own ≡ Some h → Before w m own h
before w m own h is = let r = mapped (holder_after (house_of w) m own) (w.holders own) h is in record { holder = r.0; was = r.1; becomes = r.2 }

unforged_stays : (w : House) (m : Moment) (env : Envelope) → IsUnforged w env → IsUnforged (after w m) env
unforged_stays w m env kept account holder q message says is =
    let b = before w m account holder is in
    subst (λ (h : Holder). slice_get h.texts q ≡ Some message) b.becomes (texts_stay (house_of w) m account b.holder q message (kept account b.holder q message says b.was))

sigs_stay : (w : House) (m : Moment) (sigs : List SeatSig) → AreUnforgedSigs w sigs → AreUnforgedSigs (after w m) sigs
sigs_stay w m sigs a = every_weaker (λ (sig : SeatSig). IsUnforged w sig.env) (λ (sig : SeatSig). IsUnforged (after w m) sig.env) (λ sig k. unforged_stays w m sig.env k) sigs a

chain_stays : (w : House) (m : Moment) (chain : Chain) → IsUnforgedChain w chain → IsUnforgedChain (after w m) chain
chain_stays w m chain a =
    every_weaker (λ (link : Link). AreUnforgedSigs w link.sigs) (λ (link : Link). AreUnforgedSigs (after w m) link.sigs) (λ link k. sigs_stay w m link.sigs k) chain.links a

claim_stays : (w : House) (m : Moment) (claim : Claim) → IsUnforgedClaim w claim → IsUnforgedClaim (after w m) claim
claim_stays w m claim k = record { links = chain_stays w m (chain_of claim) k.links; sigs = sigs_stay w m claim.sigs k.sigs }

pub record ClaimKept (w : House) (claim : Claim) : Type 0 where
  pub unforged : IsUnforgedClaim w claim
  pub held : IsHeld (chain_of claim)

pub record ChainKept (w : House) (chain : Chain) : Type 0 where
  pub unforged : IsUnforgedChain w chain
  pub held : IsHeld chain

pub record Kept (w : House) : Type 0 where
  pub genesis : HasSeats w.genesis
  pub holders : (account : Id) (h : Holder) → w.holders account ≡ Some h → HolderKept (house_of w) h.texts h.seat
  pub claims : AllByRecursion (ClaimKept w) w.claims
  pub chains : AllByRecursion (ChainKept w) w.chains

chains_of_claims : (w : House) (claims : List Claim) → AllByRecursion (ClaimKept w) claims → AllByRecursion (ChainKept w) (map chain_of claims)
chains_of_claims w [] a = tt
chains_of_claims w (claim ∷ claims) a = (record { unforged = a.0.unforged.links; held = a.0.held }, chains_of_claims w claims a.1)

pub delivered : (w : House) (chain : Chain) → Kept w → IsDelivered w chain → ChainKept w chain
delivered w chain k d =
    every_at (ChainKept w) (w.chains ++ map chain_of w.claims) chain (every_append (ChainKept w) w.chains (map chain_of w.claims) k.chains (chains_of_claims w w.claims k.claims)) d

new_claims : (w : House) (m : Moment) → IsStep w m → DeliversUnforged w m → AllByRecursion (ClaimKept w) (claims_of m)
new_claims w (Seats a c) step real = tt
new_claims w (Signs a text) step real = tt
new_claims w (Shows claim) step real = (record { unforged = real; held = step }, tt)
new_claims w (Delivers chain) step real = tt

new_chains : (w : House) (m : Moment) → IsStep w m → DeliversUnforged w m → AllByRecursion (ChainKept w) (chains_of m)
new_chains w (Seats a c) step real = tt
new_chains w (Signs a text) step real = tt
new_chains w (Shows claim) step real = tt
new_chains w (Delivers chain) step real = (record { unforged = real; held = step }, tt)

pub kept_step : (w : House) (m : Moment) → Kept w → IsStep w m → DeliversUnforged w m → Kept (after w m)
kept_step w m k step real = record {
  genesis = k.genesis;
  holders = λ account h is.
      let b = before w m account h is in
      subst (λ (x : Holder). HolderKept (house_of w) x.texts x.seat) b.becomes
      (holder_kept w m account b.holder (λ chain d. (delivered w chain k d).held) step b.was (k.holders account b.holder b.was));
  claims = every_weaker (ClaimKept w) (ClaimKept (after w m)) (λ claim c. record { unforged = claim_stays w m claim c.unforged; held = c.held }) (claims_of m ++ w.claims)
      (every_append (ClaimKept w) (claims_of m) w.claims (new_claims w m step real) k.claims);
  chains = every_weaker (ChainKept w) (ChainKept (after w m)) (λ chain c. record { unforged = chain_stays w m chain c.unforged; held = c.held }) (chains_of m ++ w.chains)
      (every_append (ChainKept w) (chains_of m) w.chains (new_chains w m step real) k.chains);
}

pub kept_run : (w : House) (run : List Moment) → Kept w → IsRun w run → AreUnforged w run → Kept (after_all run w)
kept_run w [] k r u = k
kept_run w (m ∷ run) k r u = kept_run (after w m) run (kept_step w m k r.0 u.0) r.1 u.1

none_signed : (texts : List (List ℕ)) → texts ≡ [] → HasNoSeatText texts
none_signed texts e t wide h = none_there (subst (λ (x : List (List ℕ)). Contains x (seat_text t)) e h)
  where
    none_there : Contains [] (seat_text t) → ⊥
    none_there (k, lt, is) = omega (arith, lt)

opening_kept : (house : Id) (texts : List (List ℕ)) (seat : Option SeatState) → texts ≡ [] → ((s : SeatState) → seat ≡ Some s → (s.records ≡ []) × (s.closing ≡ None)) → HolderKept house texts seat
opening_kept house texts None e f = none_signed texts e
opening_kept house texts (Some s) e f = record {
  own = λ t wide h. absurd (none_signed texts e t wide h);
  records = subst (AllByRecursion IsRecord) (sym (f s refl).0) tt;
  unsigned = λ no. none_signed texts e;
  empty = λ no. (f s refl).0;
  unclosed = λ no. (f s refl).1;
}

pub kept_opening : (w : House) → IsOpening w → Kept w
kept_opening w o = record {
  genesis = o.genesis;
  holders = λ account h is. opening_kept (house_of w) h.texts h.seat (o.texts account h is) (λ s here. o.seats account h s is here);
  claims = subst (AllByRecursion (ClaimKept w)) (sym o.claims) tt;
  chains = subst (AllByRecursion (ChainKept w)) (sym o.chains) tt;
}
