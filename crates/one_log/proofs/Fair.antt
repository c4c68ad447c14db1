-- What is fair at the end of a run was fair at each moment, since lists of records only grow.
use Rattle.std.proofs.Common.{◌≡◌, ℕ, Bool, true, false, cond, Option, Some, None, is_some, List, [], ◌∷◌, ◌++◌, map, Contains, refl, ap, sym, ◌∙◌, subst, ⊎_elim}
use Rattle.std.specs.Option.{option_map}
use Rattle.std.proofs.lemmas.List.{append-nil}
use Rattle.std.proofs.lemmas.List.Elements.{Contains-append_left, Contains-append_right, Contains-append_cases}
use Rattle.dh_base.specs.declared.id.Id.{Id}
use Rattle.dh_base.specs.Ids.{same_id}
use Rattle.vote_log.specs.Entry.{Entry}
use Rattle.vote_log.specs.Heads.{start_text, step_text, first_head, next_head, step_texts, head_texts}
use Rattle.vote_log.proofs.Ids.{same_from_bytes}
use Rattle.cert_core.specs.Sets.{SetTold}
use Rattle.cert_core.specs.Quorums.{account_of}
use Rattle.cert_core.specs.SharedSeats.{FewDeviate}
use Rattle.claim_core.specs.declared.claim.Claim.{Claim}
use Rattle.one_log.specs.Holders.{SeatState, Holder}
use Rattle.one_log.specs.Houses.{House, Chain, chain_of, house_of, IsDelivered}
use Rattle.one_log.specs.Premises.{IsHashed, of_chain, of_seat, of_link, IsCollisionFree, HasFewDeviants, HasHonestQuorums}
use Rattle.one_log.specs.Moments.{SeatChange, Enters, SignsPrefix, Closes, SignsHandover, Begins, Moment, Seats, Signs, Shows, Delivers, seat_after, changed, holder_after, claims_of, chains_of, after, after_all, IsSeatStep, IsStep, IsRun, AreUnforged}
use Rattle.one_log.proofs.Lists.{head_or_tail, at_head, in_tail, none_in_empty}
use Rattle.one_log.proofs.Kept.{HolderKept, Kept, kept_step}
use Rattle.one_log.proofs.Signed.{IsFair}

-- ---- lists only grow

-- the seat behind, whose list goes on
record GoesOn (before : SeatState) (o : Option SeatState) : Type 0 where
  seat : SeatState
  here : o ≡ Some seat
  more : List Entry
  grown : before.records ++ more ≡ seat.records

unmoved : (s t : SeatState) → s.records ≡ t.records → GoesOn s (Some t)
unmoved s t e = record { seat = t; here = refl; more = []; grown = append-nil s.records ∙ e }

seat_goes : (w : House) (c : SeatChange) (s : SeatState) → (s.begun ≡ false → s.records ≡ []) → IsSeatStep w s c → GoesOn s (Some (seat_after c s))
seat_goes w (Enters e) s empty step = record { seat = seat_after (Enters e) s; here = refl; more = e ∷ []; grown = refl }
seat_goes w (SignsPrefix len) s empty step = unmoved s s refl
seat_goes w (Closes next) s empty step = unmoved s (seat_after (Closes next) s) refl
seat_goes w (SignsHandover next) s empty step = unmoved s s refl
seat_goes w (Begins chain) s empty step = record { seat = seat_after (Begins chain) s; here = refl; more = chain.records; grown = ap (λ (l : List Entry). l ++ chain.records) (empty step.0) }

changed_goes : (w : House) (c : SeatChange) (texts : List (List ℕ)) (seat : Option SeatState) (s : SeatState) → seat ≡ Some s → HolderKept (house_of w) texts seat → ((t : SeatState) → seat ≡ Some t → IsSeatStep w t c) → GoesOn s (changed (house_of w) c texts seat).seat
changed_goes w c texts None s is k step = absurd cc
changed_goes w c texts (Some t) s is k step =
    let same : t ≡ s = cc in
    subst (λ x. GoesOn x (Some (seat_after c t))) same (seat_goes w c t k.empty (step t refl))

goes_at : (b : Bool) (x y : Holder) (s : SeatState) → (b ≡ true → GoesOn s x.seat) → GoesOn s y.seat → GoesOn s (cond b x y).seat
goes_at true x y s p q = p refl
goes_at false x y s p q = q

stays : (h : Holder) (s : SeatState) → h.seat ≡ Some s → GoesOn s h.seat
stays h s is = record { seat = s; here = is; more = []; grown = append-nil s.records }

holder_goes : (w : House) (m : Moment) (own : Id) (h : Holder) (s : SeatState) → IsStep w m → w.holders own ≡ Some h → HolderKept (house_of w) h.texts h.seat → h.seat ≡ Some s → GoesOn s (holder_after (house_of w) m own h).seat
holder_goes w (Seats a c) own h s step is k here =
    goes_at (same_id a own) (changed (house_of w) c h.texts h.seat) h s
    (λ same. changed_goes w c h.texts h.seat s here k (λ t there. step h t (ap w.holders (same_from_bytes a own same) ∙ is) there)) (stays h s here)
holder_goes w (Signs a text) own h s step is k here =
    goes_at (same_id a own) (record { texts = h.texts ++ text ∷ []; seat = h.seat }) h s (λ same. stays h s here) (stays h s here)
holder_goes w (Shows claim) own h s step is k here = stays h s here
holder_goes w (Delivers chain) own h s step is k here = stays h s here

-- ---- hashed texts

more_steps : (head : Id) (l more : List Entry) (t : List ℕ) → Contains (step_texts head l) t → Contains (step_texts head (l ++ more)) t
more_steps head [] more t c = absurd (none_in_empty t c)
more_steps head (e ∷ l) more t c =
    ⊎_elim
    (λ (is : step_text head e ≡ t). subst (λ (u : List ℕ). Contains (step_texts head (e ∷ (l ++ more))) u) is (at_head (step_text head e) (step_texts (next_head head e) (l ++ more))))
    (λ (later : Contains (step_texts (next_head head e) l) t). in_tail (step_text head e) (step_texts (next_head head e) (l ++ more)) t (more_steps (next_head head e) l more t later))
    (head_or_tail (step_text head e) (step_texts (next_head head e) l) t c)

more_texts : (house : Id) (l more : List Entry) (t : List ℕ) → Contains (head_texts house l) t → Contains (head_texts house (l ++ more)) t
more_texts house l more t c =
    ⊎_elim
    (λ (is : start_text house ≡ t). subst (λ (u : List ℕ). Contains (head_texts house (l ++ more)) u) is (at_head (start_text house) (step_texts (first_head house) (l ++ more))))
    (λ (later : Contains (step_texts (first_head house) l) t). in_tail (start_text house) (step_texts (first_head house) (l ++ more)) t (more_steps (first_head house) l more t later))
    (head_or_tail (start_text house) (step_texts (first_head house) l) t c)

map_append : (xs ys : List Claim) → map chain_of (xs ++ ys) ≡ map chain_of xs ++ map chain_of ys
map_append [] ys = refl
map_append (x ∷ xs) ys = ap (λ (l : List Chain). chain_of x ∷ l) (map_append xs ys)

pub delivered_still : (w : House) (m : Moment) (chain : Chain) → IsDelivered w chain → IsDelivered (after w m) chain
delivered_still w m chain d =
    ⊎_elim
    (λ (own : Contains w.chains chain). Contains-append_left (chains_of m ++ w.chains) (map chain_of (claims_of m ++ w.claims)) chain (Contains-append_right (chains_of m) w.chains chain own))
    (λ (claim : Contains (map chain_of w.claims) chain). Contains-append_right (chains_of m ++ w.chains) (map chain_of (claims_of m ++ w.claims)) chain
    (subst (λ (l : List Chain). Contains l chain) (sym (map_append (claims_of m) w.claims)) (Contains-append_right (map chain_of (claims_of m)) (map chain_of w.claims) chain claim)))
    (Contains-append_cases w.chains (map chain_of w.claims) chain d)

hashed_still : (w : House) (m : Moment) → Kept w → IsStep w m → (t : List ℕ) → IsHashed w t → IsHashed (after w m) t
hashed_still w m k step t (of_chain chain d h) = of_chain chain (delivered_still w m chain d) h
hashed_still w m k step t (of_link chain link d h is) = of_link chain link (delivered_still w m chain d) h is
hashed_still w m k step t (of_seat a h s is here among) =
    let g = holder_goes w m a h s step is (k.holders a h is) here in
    of_seat a (holder_after (house_of w) m a h) g.seat (ap (option_map (holder_after (house_of w) m a)) is) g.here
    (subst (λ (l : List Entry). Contains (head_texts (house_of w) l) t) g.grown (more_texts (house_of w) s.records g.more t among))

-- ---- quorums

some_still : (f : Holder → Holder) (o : Option Holder) → is_some (option_map f o) ≡ is_some o
some_still f None = refl
some_still f (Some h) = refl

few_before : (w : House) (m : Moment) (set : SetTold) → HasFewDeviants (after w m) set → HasFewDeviants w set
few_before w m set few =
    subst (FewDeviate set) (λ i seat. some_still (holder_after (house_of w) m (account_of set.seats seat)) (w.holders (account_of set.seats seat)) i) few

pub fair_before : (w : House) (m : Moment) → Kept w → IsStep w m → IsCollisionFree (after w m) → HasHonestQuorums (after w m) → IsFair w
fair_before w m k step apart quorums = record {
  kept = k;
  collision_free = λ s t p q same. apart s t (hashed_still w m k step s p) (hashed_still w m k step t q) same;
  honest_quorums = λ chain front set r.
      few_before w m set (quorums chain front set (record { delivered = delivered_still w m chain r.delivered; rest = r.rest; parts = r.parts; leads = r.leads }));
}

-- at the beginning of a run that ends fairly
pub fair_all : (w : House) (run : List Moment) → Kept w → IsRun w run → AreUnforged w run → IsCollisionFree (after_all run w) → HasHonestQuorums (after_all run w) → IsFair w
fair_all w [] k r u apart quorums = record { kept = k; collision_free = apart; honest_quorums = quorums }
fair_all w (m ∷ run) k r u apart quorums =
    let later = fair_all (after w m) run (kept_step w m k r.0 u.0) r.1 u.1 apart quorums in
    fair_before w m k r.0 later.collision_free later.honest_quorums
