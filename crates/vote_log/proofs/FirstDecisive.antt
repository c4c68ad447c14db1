-- The outcome is what the first decisive place says, and there is one behind an abort.
use Rattle.std.proofs.Common.{◌≡◌, ℕ, suc, ◌<◌, ◌≤◌, Option, Some, None, IsSome, List, [], ◌∷◌, ◌++◌, length, take, drop, slice_get, refl, ap, sym, ◌∙◌, subst, arith, append_assoc, append-nil, length-append, ◌⊎◌, ⊎_elim, below_more}
use Rattle.std.proofs.lemmas.Bool.{cases_lt, cases_order}
use Rattle.std.proofs.lemmas.List.{take_at}
use Rattle.std.proofs.lemmas.Option.{slice_get_past}
use Rattle.dh_base.specs.declared.id.Id.{Id}
use Rattle.dh_base.specs.declared.outcome.Outcome.{Outcome}
use Rattle.vote_log.specs.declared.decision.Decision.{Decision}
use Rattle.vote_log.specs.declared.kind.Kind.TheVariants.{Abort}
use Rattle.vote_log.specs.Entry.{Entry}
use Rattle.vote_log.specs.Deciding.{first_start, decided_after, at_place, outcome_from, outcome_of}
use Rattle.vote_log.specs.Places.{HoldsAt, IsFirstStart, IsDecisive, IsFirstDecisive}
use Rattle.vote_log.proofs.Decided.{abort_found}
use Rattle.vote_log.proofs.Lists.{get_after, split_at}
use Rattle.vote_log.proofs.Pushed.{entry_of}
use Rattle.vote_log.proofs.Placed.{front_has, decided_at, decisive, sentence_from, sentence_to}

-- what the place behind the front decides
at_front : (deal : Id) (front : List Entry) (entry : Entry) (rest : List Entry) → decisive (front ++ entry ∷ rest) deal (length front) ≡ decided_after deal (first_start front deal) entry
at_front deal front entry rest =
    ap (λ (f : List Entry). decided_at deal f (slice_get (front ++ entry ∷ rest) (length front))) (take_at front (entry ∷ rest) (length front) refl) ∙ ap (decided_at deal front) (get_after front entry rest)

-- o is the first decision of the log, if there is one
record Found (log : List Entry) (deal : Id) (o : Option Decision) : Type 0 where
  here : (d : Decision) → o ≡ Some d → decisive log deal d.at ≡ Some d.outcome
  before : (d : Decision) → o ≡ Some d → (q : ℕ) → q < d.at → decisive log deal q ≡ None
  none : o ≡ None → (q : ℕ) → decisive log deal q ≡ None

found : (deal : Id) (front rest : List Entry) → ((q : ℕ) → q < length front → decisive (front ++ rest) deal q ≡ None) → Found (front ++ rest) deal (outcome_from deal front rest)
found deal front [] below = record {
  here = λ d e. absurd (cc e);
  before = λ d e. absurd (cc e);
  none = λ e q. ⊎_elim (λ (h : q < length front). below q h) (λ (h : length front ≤ q).
      let whole : List Entry = front ++ [] in
      let past : slice_get whole q ≡ None = slice_get_past whole q (omega (arith, ap length (append-nil front))) in
      ap (decided_at deal (take q whole)) past) (cases_lt q (length front));
}
found deal front (entry ∷ rest) below = go (decided_after deal (first_start front deal) entry) refl
    (λ here.
    let assoc : (front ++ entry ∷ []) ++ rest ≡ front ++ (entry ∷ rest) = append_assoc front (entry ∷ []) rest in
    let at : decisive (front ++ (entry ∷ rest)) deal (length front) ≡ None = at_front deal front entry rest ∙ here in
    let more = below_more (λ q. decisive (front ++ (entry ∷ rest)) deal q ≡ None) (length front) below at in
    let below' : (q : ℕ) → q < length (front ++ entry ∷ []) → decisive ((front ++ entry ∷ []) ++ rest) deal q ≡ None = λ q h. subst (λ (l : List Entry). decisive l deal q ≡ None) (sym assoc) (more q (omega (arith, length-append front (entry ∷ [])))) in
    subst (λ (l : List Entry). Found l deal (outcome_from deal (front ++ entry ∷ []) rest)) assoc (found deal (front ++ entry ∷ []) rest below'))
  where
    go : (o : Option Outcome) → decided_after deal (first_start front deal) entry ≡ o → (o ≡ None → Found (front ++ (entry ∷ rest)) deal (outcome_from deal (front ++ entry ∷ []) rest)) → Found (front ++ (entry ∷ rest)) deal (at_place (length front) o (outcome_from deal (front ++ entry ∷ []) rest))
    go None is next = next refl
    go (Some c) is next =
        let this : Decision = record { outcome = c; at = length front } in
        let known : decisive (front ++ (entry ∷ rest)) deal (length front) ≡ Some c = at_front deal front entry rest ∙ is in
        record {
          here = λ d e. let same : this ≡ d = cc in subst (λ (x : Decision). decisive (front ++ (entry ∷ rest)) deal x.at ≡ Some x.outcome) same known;
          before = λ d e q h. let same : this ≡ d = cc in below q (subst (λ (x : Decision). q < x.at) (sym same) h);
          none = λ e. absurd (cc e);
        }

whole : (log : List Entry) (deal : Id) → Found log deal (outcome_of log deal)
whole log deal = found deal [] log (λ q h. absurd (omega arith))

undecisive : (log : List Entry) (deal : Id) (q : ℕ) (o : Outcome) → decisive log deal q ≡ None → IsDecisive log deal q o → ⊥
undecisive log deal q o none is = absurd (cc (none, sentence_to log deal q o is))

pub first_some : (log : List Entry) (deal : Id) (place : ℕ) (outcome : Outcome) → outcome_of log deal ≡ Some (record { outcome = outcome; at = place }) → IsFirstDecisive log deal place outcome
first_some log deal place outcome e =
    let w = whole log deal in
    let d : Decision = record { outcome = outcome; at = place } in
    record {
      here = sentence_from log deal place outcome (w.here d e);
      first = λ earlier other less is. undecisive log deal earlier other (w.before d e earlier less) is;
    }

pub first_back : (log : List Entry) (deal : Id) (place : ℕ) (outcome : Outcome) (o : Option Decision) → outcome_of log deal ≡ o → IsFirstDecisive log deal place outcome → o ≡ Some (record { outcome = outcome; at = place })
first_back log deal place outcome None e is = absurd (undecisive log deal place outcome ((whole log deal).none e place) is.here)
first_back log deal place outcome (Some d) e is =
    let w = whole log deal in
    let mine = w.here d e in
    let theirs = sentence_to log deal place outcome is.here in
    ⊎_elim
    (λ (s : d.at ≡ place).
    let both : Some d.outcome ≡ Some outcome = sym mine ∙ (ap (decisive log deal) s ∙ theirs) in
    let same : d.outcome ≡ outcome = cc in
    ap (λ (x : Outcome). Some (record { outcome = x; at = d.at })) same ∙ ap (λ (p : ℕ). Some (record { outcome = outcome; at = p })) s)
    (λ (h : (d.at < place) ⊎ (place < d.at)).
    ⊎_elim
    (λ (less : d.at < place). absurd (is.first d.at d.outcome less (sentence_from log deal d.at d.outcome mine)))
    (λ (more : place < d.at). absurd (undecisive log deal place outcome (w.before d e place more) is.here))
    h)
    (cases_order d.at place)

pub none_some : (log : List Entry) (deal : Id) → outcome_of log deal ≡ None → (place : ℕ) (outcome : Outcome) → IsDecisive log deal place outcome → ⊥
none_some log deal e place outcome is = undecisive log deal place outcome ((whole log deal).none e place) is

pub none_back : (log : List Entry) (deal : Id) (o : Option Decision) → outcome_of log deal ≡ o → ((place : ℕ) (outcome : Outcome) → IsDecisive log deal place outcome → ⊥) → o ≡ None
none_back log deal None e never = refl
none_back log deal (Some d) e never = absurd (never d.at d.outcome (sentence_from log deal d.at d.outcome ((whole log deal).here d e)))

-- an abort by an index of the deal after its first start
pub abort_placed : (log : List Entry) (deal : Id) (start parties place index : ℕ) → IsFirstStart log deal start parties → start < place → HoldsAt log place Abort index deal → index < parties → IsSome (outcome_of log deal)
abort_placed log deal start parties place index first after here party =
    let found = front_has log deal place start parties first after (first_start (take place log) deal) refl in
    subst (λ (l : List Entry). IsSome (outcome_of l deal)) (split_at log place (entry_of Abort index deal) here)
    (abort_found (take place log) (drop (suc place) log) deal found.0 index found.1 (omega (arith, party, found.3)))
