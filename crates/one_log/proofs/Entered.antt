-- Each record of a certified list was entered by a compliant seat.
use Rattle.std.proofs.Common.{◌≡◌, ℕ, Option, Some, None, List, [], ◌∷◌, ◌++◌, length, take, Contains, refl, ap, sym, ◌∙◌, subst, append_assoc, arith}
use Rattle.std.specs.List.{AllByRecursion}
use Rattle.std.proofs.lemmas.List.{append-nil, take_all}
use Rattle.std.proofs.lemmas.List.Elements.{Contains-append_left, Contains-append_right}
use Rattle.dh_base.specs.declared.id.Id.{Id}
use Rattle.dh_base.specs.Ids.{same_id}
use Rattle.claim_core.specs.Chains.{ChainLeadsTo}
use Rattle.vote_log.specs.Entry.{Entry}
use Rattle.vote_log.proofs.Ids.{same_from_bytes}
use Rattle.one_log.specs.Holders.{SeatState, Holder}
use Rattle.one_log.specs.Houses.{House, Chain, house_of, IsCertified, by_link}
use Rattle.one_log.specs.Premises.{IsCollisionFree, HasHonestQuorums}
use Rattle.one_log.specs.Moments.{SeatChange, Enters, SignsPrefix, Closes, SignsHandover, Begins, Moment, Seats, Signs, Shows, Delivers, seat_after, changed, holder_after, entries_of, entered_in, after, after_all, MayBegin, IsSeatStep, IsStep, IsRun, IsOpening, IsGiven, AreUnforged}
use Rattle.one_log.proofs.Lists.{every_weaker, every_append, at_head}
use Rattle.one_log.proofs.Kept.{at_key, Kept, kept_step, kept_run, kept_opening, before}
use Rattle.one_log.proofs.Signed.{IsFair}
use Rattle.one_log.proofs.Fair.{fair_all}
use Rattle.one_log.proofs.Walks.{certified_held}

abbrev pub AreEntered : List Entry → List Entry → Type 0
AreEntered entered records = AllByRecursion (Contains entered) records

-- of the seat, where there is one
abbrev IsEnteredSeat : List Entry → Option SeatState → Type 0
IsEnteredSeat entered None = Unit {0}
IsEnteredSeat entered (Some seat) = AreEntered entered seat.records

abbrev pub SeatsEntered : House → List Entry → Type 0
SeatsEntered w entered = (account : Id) (h : Holder) → w.holders account ≡ Some h → IsEnteredSeat entered h.seat

front_of : (P : Entry → Type 0) (xs ys : List Entry) → AllByRecursion P (xs ++ ys) → AllByRecursion P xs
front_of P [] ys a = tt
front_of P (x ∷ xs) ys a = (a.0, front_of P xs ys a.1)

seat_entered : (entered : List Entry) (o : Option SeatState) (s : SeatState) → o ≡ Some s → IsEnteredSeat entered o → AreEntered entered s.records
seat_entered entered o s is a = subst (IsEnteredSeat entered) is a

pub certified_entered : (w : House) (entered : List Entry) → IsFair w → SeatsEntered w entered → (x : List Entry) → IsCertified w x → AreEntered entered x
certified_entered w entered fair all x cx =
    let h = certified_held w fair x cx in
    let records = seat_entered entered h.holder.seat h.seat h.here (all h.account h.holder h.is) in
    front_of (Contains entered) x h.begins.0 (subst (AreEntered entered) (sym h.begins.1) records)

take_whole : (l : List Entry) (n : ℕ) → n ≡ length l → take n l ≡ l
take_whole l n e = take_all n l (omega (arith, e))

begin_entered : (w : House) (entered : List Entry) (s : SeatState) (chain : Chain) → IsFair w → SeatsEntered w entered → MayBegin w s.set chain → AreEntered entered chain.records
begin_entered w entered s chain fair all may =
    certified_entered w entered fair all chain.records
    (by_link chain may.front may.last s.set
    (record {
      delivered = may.delivered;
      rest = [];
      parts = append-nil (may.front ++ may.last ∷ []) ∙ sym may.parts;
      leads = subst (λ links. ChainLeadsTo (house_of w) chain.records w.genesis links s.set) may.parts may.leads;
    }) (sym (take_whole chain.records may.last.len may.whole)))

-- ---- a step

more_entered : (m : Moment) (entered : List Entry) (records : List Entry) → AreEntered entered records → AreEntered (entered ++ entries_of m) records
more_entered m entered records a = every_weaker (Contains entered) (Contains (entered ++ entries_of m)) (λ e h. Contains-append_left entered (entries_of m) e h) records a

more_seat : (m : Moment) (entered : List Entry) (o : Option SeatState) → IsEnteredSeat entered o → IsEnteredSeat (entered ++ entries_of m) o
more_seat m entered None a = tt
more_seat m entered (Some s) a = more_entered m entered s.records a

seat_step : (w : House) (a : Id) (c : SeatChange) (entered : List Entry) (s : SeatState) → IsFair w → SeatsEntered w entered → IsSeatStep w s c → AreEntered entered s.records → AreEntered (entered ++ entries_of (Seats a c)) (seat_after c s).records
seat_step w a (Enters e) entered s fair all step old =
    every_append (Contains (entered ++ e ∷ [])) s.records (e ∷ []) (more_entered (Seats a (Enters e)) entered s.records old) (Contains-append_right entered (e ∷ []) e (at_head e []), tt)
seat_step w a (SignsPrefix len) entered s fair all step old = more_entered (Seats a (SignsPrefix len)) entered s.records old
seat_step w a (Closes next) entered s fair all step old = more_entered (Seats a (Closes next)) entered s.records old
seat_step w a (SignsHandover next) entered s fair all step old = more_entered (Seats a (SignsHandover next)) entered s.records old
seat_step w a (Begins chain) entered s fair all step old = more_entered (Seats a (Begins chain)) entered chain.records (begin_entered w entered s chain fair all step.1)

changed_step : (w : House) (a : Id) (c : SeatChange) (entered : List Entry) (texts : List (List ℕ)) (o : Option SeatState) → IsFair w → SeatsEntered w entered → ((s : SeatState) → o ≡ Some s → IsSeatStep w s c) → IsEnteredSeat entered o
    → IsEnteredSeat (entered ++ entries_of (Seats a c)) (changed (house_of w) c texts o).seat
changed_step w a c entered texts None fair all step old = tt
changed_step w a c entered texts (Some s) fair all step old = seat_step w a c entered s fair all (step s refl) old

holder_step : (w : House) (m : Moment) (entered : List Entry) (own : Id) (h : Holder) → IsFair w → SeatsEntered w entered → IsStep w m → w.holders own ≡ Some h → IsEnteredSeat (entered ++ entries_of m) (holder_after (house_of w) m own h).seat
holder_step w (Seats a c) entered own h fair all step is =
    at_key (λ x. IsEnteredSeat (entered ++ entries_of (Seats a c)) x.seat) (same_id a own) (changed (house_of w) c h.texts h.seat) h
    (λ same. changed_step w a c entered h.texts h.seat fair all (λ s here. step h s (ap w.holders (same_from_bytes a own same) ∙ is) here) (all own h is))
    (more_seat (Seats a c) entered h.seat (all own h is))
holder_step w (Signs a text) entered own h fair all step is =
    at_key (λ x. IsEnteredSeat (entered ++ []) x.seat) (same_id a own) (record { texts = h.texts ++ text ∷ []; seat = h.seat }) h
    (λ same. more_seat (Signs a text) entered h.seat (all own h is)) (more_seat (Signs a text) entered h.seat (all own h is))
holder_step w (Shows claim) entered own h fair all step is = more_seat (Shows claim) entered h.seat (all own h is)
holder_step w (Delivers chain) entered own h fair all step is = more_seat (Delivers chain) entered h.seat (all own h is)

entered_step : (w : House) (m : Moment) (entered : List Entry) → IsFair w → SeatsEntered w entered → IsStep w m → SeatsEntered (after w m) (entered ++ entries_of m)
entered_step w m entered fair all step account h is =
    let b = before w m account h is in
    subst (λ (x : Holder). IsEnteredSeat (entered ++ entries_of m) x.seat) b.becomes (holder_step w m entered account b.holder fair all step b.was)

-- ---- a run

entered_run : (w : House) (run : List Moment) (entered : List Entry) → Kept w → IsRun w run → AreUnforged w run → IsCollisionFree (after_all run w) → HasHonestQuorums (after_all run w) → SeatsEntered w entered
    → SeatsEntered (after_all run w) (entered ++ entered_in run)
entered_run w [] entered k r u apart quorums all = subst (SeatsEntered w) (sym (append-nil entered)) all
entered_run w (m ∷ run) entered k r u apart quorums all =
    let next = entered_step w m entered (fair_all w (m ∷ run) k r u apart quorums) all r.0 in
    subst (SeatsEntered (after_all run (after w m))) (append_assoc entered (entries_of m) (entered_in run))
    (entered_run (after w m) run (entered ++ entries_of m) (kept_step w m k r.0 u.0) r.1 u.1 apart quorums next)

none_entered : (o : Option SeatState) → ((s : SeatState) → o ≡ Some s → (s.records ≡ []) × (s.closing ≡ None)) → IsEnteredSeat [] o
none_entered None f = tt
none_entered (Some s) f = subst (AreEntered []) (sym (f s refl).0) tt

-- a run that meets the premises ends in a house in which they hold
pub fair_end : (w : House) (run : List Moment) → IsOpening w → IsRun w run → IsGiven w run → IsFair (after_all run w)
fair_end w run o r g = record {
  kept = kept_run w run (kept_opening w o) r g.unforged;
  collision_free = g.collision_free;
  honest_quorums = g.honest_quorums;
}

pub all_entered : (w : House) (run : List Moment) (x : List Entry) → IsOpening w → IsRun w run → IsGiven w run → IsCertified (after_all run w) x → AreEntered (entered_in run) x
all_entered w run x o r g cx =
    certified_entered (after_all run w) (entered_in run) (fair_end w run o r g)
    (entered_run w run [] (kept_opening w o) r g.unforged g.collision_free g.honest_quorums (λ account h is. none_entered h.seat (λ s here. o.seats account h s is here))) x cx
