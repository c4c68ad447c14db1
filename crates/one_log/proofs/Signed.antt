-- What the shared seat of two quorums says of two texts.
use Rattle.std.proofs.Common.{◌≡◌, ℕ, zero, suc, true, Option, Some, None, is_some, List, [], ◌∷◌, ◌++◌, length, take, Contains, refl, sym, ◌∙◌, subst, ⊎_elim}
use Rattle.std.specs.List.{AllByRecursion}
use Rattle.std.proofs.lemmas.List.{append-nil, length-take-le}
use Rattle.std.proofs.lemmas.List.Elements.{Contains-append_cases}
use mathlib.Core.List.{IsPrefix}
use Rattle.dh_base.specs.declared.id.Id.{Id}
use Rattle.vote_log.specs.Entry.{Entry}
use Rattle.vote_log.specs.RecordTexts.{IsRecord}
use Rattle.vote_log.specs.Heads.{start_text, step_text, first_head, next_head, head_after, step_texts, head_texts}
use Rattle.vote_log.proofs.Hashed.{determined}
use Rattle.cert_core.specs.declared.seat_sig.SeatSig.{SeatSig}
use Rattle.cert_core.specs.Sets.{SetTold, HasSeats}
use Rattle.cert_core.specs.SeatTexts.{SeatText, Prefix, Handover, HasWidths, seat_text}
use Rattle.cert_core.specs.Quorums.{IsQuorum, SaysAs, Vouches, account_of}
use Rattle.cert_core.specs.SharedSeats.{SharedSeat}
use Rattle.cert_core.proofs.SharedSeats.{complying}
use Rattle.one_log.specs.Holders.{SeatState, Holder, IsOwn}
use Rattle.one_log.specs.Houses.{House, Chain, OneBegins, house_of, IsDelivered}
use Rattle.one_log.specs.Premises.{IsHashed, of_chain, of_seat, IsCollisionFree, HasFewDeviants, HasHonestQuorums, IsUnforged, AreUnforgedSigs}
use Rattle.one_log.proofs.Lists.{every_at, every_front, head_or_tail, at_head, in_tail, none_in_empty, get_contains, take_begins, two_begin}
use Rattle.one_log.proofs.Kept.{SeatKept, HolderKept, Kept, delivered}

-- a house in which the premises hold
pub record IsFair (w : House) : Type 0 where
  pub kept : Kept w
  pub collision_free : IsCollisionFree w
  pub honest_quorums : HasHonestQuorums w

-- ---- lists whose heads are hashed

pub record IsListed (w : House) (l : List Entry) : Type 0 where
  pub hashed : (text : List ℕ) → Contains (head_texts (house_of w) l) text → IsHashed w text
  pub records : AllByRecursion IsRecord l

pub chain_listed : (w : House) (chain : Chain) → Kept w → IsDelivered w chain → IsListed w chain.records
chain_listed w chain k d = record { hashed = λ t h. of_chain chain d h; records = (delivered w chain k d).held.records }

pub seat_listed : (w : House) (account : Id) (h : Holder) (s : SeatState) → w.holders account ≡ Some h → h.seat ≡ Some s → SeatKept (house_of w) h.texts s → IsListed w s.records
seat_listed w account h s is here k = record { hashed = λ t c. of_seat account h s is here c; records = k.records }

steps_front : (head : Id) (n : ℕ) (l : List Entry) (t : List ℕ) → Contains (step_texts head (take n l)) t → Contains (step_texts head l) t
steps_front head zero l t h = absurd (none_in_empty t h)
steps_front head (suc n) [] t h = h
steps_front head (suc n) (e ∷ l) t h =
    ⊎_elim
    (λ (is : step_text head e ≡ t). subst (λ (u : List ℕ). Contains (step_texts head (e ∷ l)) u) is (at_head (step_text head e) (step_texts (next_head head e) l)))
    (λ (later : Contains (step_texts (next_head head e) (take n l)) t). in_tail (step_text head e) (step_texts (next_head head e) l) t (steps_front (next_head head e) n l t later))
    (head_or_tail (step_text head e) (step_texts (next_head head e) (take n l)) t h)

texts_front : (house : Id) (n : ℕ) (l : List Entry) (t : List ℕ) → Contains (head_texts house (take n l)) t → Contains (head_texts house l) t
texts_front house n l t h =
    ⊎_elim
    (λ (is : start_text house ≡ t). subst (λ (u : List ℕ). Contains (head_texts house l) u) is (at_head (start_text house) (step_texts (first_head house) l)))
    (λ (later : Contains (step_texts (first_head house) (take n l)) t). in_tail (start_text house) (step_texts (first_head house) l) t (steps_front (first_head house) n l t later))
    (head_or_tail (start_text house) (step_texts (first_head house) (take n l)) t h)

pub front_listed : (w : House) (n : ℕ) (l : List Entry) → IsListed w l → IsListed w (take n l)
front_listed w n l a = record { hashed = λ t h. a.hashed t (texts_front (house_of w) n l t h); records = every_front IsRecord n l a.records }

pub same_list : (w : House) → IsCollisionFree w → (x y : List Entry) → IsListed w x → IsListed w y → length x ≡ length y → head_after (house_of w) x ≡ head_after (house_of w) y → x ≡ y
same_list w apart x y a b len e =
    let either : (t : List ℕ) → Contains (head_texts (house_of w) x ++ head_texts (house_of w) y) t → IsHashed w t =
    λ t h. ⊎_elim (λ (p : Contains (head_texts (house_of w) x) t). a.hashed t p) (λ (q : Contains (head_texts (house_of w) y) t). b.hashed t q)
    (Contains-append_cases (head_texts (house_of w) x) (head_texts (house_of w) y) t h) in
    (determined (house_of w) (house_of w) x y a.records b.records (λ s t p q same. apart s t (either s p) (either t q) same) len e).1

-- ---- texts that name a list, by its length and head

abbrev pub Names : House → List Entry → SeatText → Type 0
Names w x (Prefix set len head) = (len ≡ length x) × (head ≡ head_after (house_of w) x)
Names w x (Handover set len head next) = (len ≡ length x) × (head ≡ head_after (house_of w) x)

-- a seat's own text names a front of its list
pub own_begins : (w : House) → IsCollisionFree w → (s : SeatState) (x : List Entry) (t : SeatText) → IsListed w s.records → IsListed w x → Names w x t → IsOwn (house_of w) s t → IsPrefix x s.records
own_begins w apart s x (Prefix set len head) ls lx names own =
    let front : x ≡ take len s.records = same_list w apart x (take len s.records) lx (front_listed w len s.records ls) (sym (names.0) ∙ sym (length-take-le len s.records own.1)) (sym (names.1) ∙ own.2) in
    subst (λ l. IsPrefix l s.records) (sym front) (take_begins len s.records)
own_begins w apart s x (Handover set len head next) ls lx names own =
    let whole : x ≡ s.records = same_list w apart x s.records lx ls (sym (names.0) ∙ own.1) (sym (names.1) ∙ own.2) in
    subst (λ l. IsPrefix l s.records) (sym whole) ([], append-nil s.records)

-- a handover names all of it
pub own_whole : (w : House) → IsCollisionFree w → (s : SeatState) (x : List Entry) (set : Id) (len : ℕ) (head next : Id) → IsListed w s.records → IsListed w x → Names w x (Handover set len head next) → IsOwn (house_of w) s (Handover set len head next) → x ≡ s.records
own_whole w apart s x set len head next ls lx names own = same_list w apart x s.records lx ls (sym (names.0) ∙ own.1) (sym (names.1) ∙ own.2)

-- ---- a compliant seat that has signed both texts

pub record Both (w : House) (t u : SeatText) : Type 0 where
  pub seat : SeatState
  pub listed : IsListed w seat.records
  pub one : IsOwn (house_of w) seat t
  pub two : IsOwn (house_of w) seat u
  pub account : Id
  pub holder : Holder
  pub is : w.holders account ≡ Some holder
  pub here : holder.seat ≡ Some seat

some_value : {A : Type 0} (o : Option A) → is_some o ≡ true → (x : A) × (o ≡ Some x)
some_value None h = absurd cc
some_value (Some x) h = (x, refl)

-- what a seat vouches for stands in its holder's texts
vouched_text : (w : House) (account : Id) (text : List ℕ) (sig : SeatSig) (h : Holder) → SaysAs account text sig.env → IsUnforged w sig.env → w.holders account ≡ Some h → Contains h.texts text
vouched_text w account text sig h says real is = get_contains h.texts says.q text (real account h says.q text says.says is)

seat_here : (house : Id) (texts : List (List ℕ)) (seat : Option SeatState) (t : SeatText) → HolderKept house texts seat → HasWidths t → Contains texts (seat_text t) → (s : SeatState) × (seat ≡ Some s) × SeatKept house texts s
seat_here house texts None t k wide h = absurd (k t wide h)
seat_here house texts (Some s) t k wide h = (s, refl, k)

pub both : (w : House) → IsFair w → (set : SetTold) (t u : SeatText) (sigs others : List SeatSig) → HasSeats set → HasFewDeviants w set → IsQuorum set (seat_text t) sigs → IsQuorum set (seat_text u) others
    → AreUnforgedSigs w sigs → AreUnforgedSigs w others → HasWidths t → HasWidths u → Both w t u
both w fair set t u sigs others has few p q real genuine wide fits =
    let sh : SharedSeat (λ seat. is_some (w.holders (account_of set.seats seat))) sigs others =
    complying set (seat_text t) (seat_text u) sigs others (λ seat. is_some (w.holders (account_of set.seats seat))) has few p q in
    let account : Id = account_of set.seats sh.sig.seat in
    let v = some_value (w.holders account) sh.complies_is in
    let first : SaysAs account (seat_text t) sh.sig.env = every_at (Vouches set.seats (seat_text t)) sigs sh.sig p.vouched sh.first in
    let second : SaysAs (account_of set.seats sh.other.seat) (seat_text u) sh.other.env = every_at (Vouches set.seats (seat_text u)) others sh.other q.vouched sh.second in
    let again : SaysAs account (seat_text u) sh.other.env = subst (λ (n : ℕ). SaysAs (account_of set.seats n) (seat_text u) sh.other.env) sh.same second in
    let one : Contains v.0.texts (seat_text t) = vouched_text w account (seat_text t) sh.sig v.0 first (every_at (λ (sig : SeatSig). IsUnforged w sig.env) sigs sh.sig real sh.first) v.1 in
    let two : Contains v.0.texts (seat_text u) = vouched_text w account (seat_text u) sh.other v.0 again (every_at (λ (sig : SeatSig). IsUnforged w sig.env) others sh.other genuine sh.second) v.1 in
    let s = seat_here (house_of w) v.0.texts v.0.seat t (fair.kept.holders account v.0 v.1) wide one in
    record {
      seat = s.0;
      listed = seat_listed w account v.0 s.0 v.1 s.1 s.2;
      one = s.2.own t wide one;
      two = s.2.own u fits two;
      account = account;
      holder = v.0;
      is = v.1;
      here = s.1;
    }

-- ---- lists that a quorum backs

-- a quorum of the set has signed a text that names the list
pub record Backed (w : House) (set : SetTold) (x : List Entry) : Type 0 where
  pub text : SeatText
  pub wide : HasWidths text
  pub names : Names w x text
  pub sigs : List SeatSig
  pub quorum : IsQuorum set (seat_text text) sigs
  pub real : AreUnforgedSigs w sigs
  pub listed : IsListed w x

pub two_backed : (w : House) → IsFair w → (set : SetTold) (x y : List Entry) → HasSeats set → HasFewDeviants w set → Backed w set x → Backed w set y → OneBegins x y
two_backed w fair set x y has few bx by =
    let b = both w fair set bx.text by.text bx.sigs by.sigs has few bx.quorum by.quorum bx.real by.real bx.wide by.wide in
    two_begin x y b.seat.records
    (own_begins w fair.collision_free b.seat x bx.text b.listed bx.listed bx.names b.one)
    (own_begins w fair.collision_free b.seat y by.text b.listed by.listed by.names b.two)

-- a compliant seat whose list begins with x
pub record HeldBySeat (w : House) (x : List Entry) : Type 0 where
  pub account : Id
  pub holder : Holder
  pub seat : SeatState
  pub is : w.holders account ≡ Some holder
  pub here : holder.seat ≡ Some seat
  pub begins : IsPrefix x seat.records

pub backed_held : (w : House) → IsFair w → (set : SetTold) (x : List Entry) → HasSeats set → HasFewDeviants w set → Backed w set x → HeldBySeat w x
backed_held w fair set x has few bx =
    let b = both w fair set bx.text bx.text bx.sigs bx.sigs has few bx.quorum bx.quorum bx.real bx.real bx.wide bx.wide in
    record {
      account = b.account;
      holder = b.holder;
      seat = b.seat;
      is = b.is;
      here = b.here;
      begins = own_begins w fair.collision_free b.seat x bx.text b.listed bx.listed bx.names b.one;
    }
