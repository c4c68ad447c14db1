-- A log with one more entry.
use Rattle.std.proofs.Common.{◌≡◌, ℕ, ◌+◌, Bool, true, false, cond, Option, Some, None, List, [], ◌∷◌, ◌++◌, length, refl, ap, sym, ◌∙◌, subst, arith, append_assoc, append-nil, add-zero}
use Rattle.std.specs.List.{position_from}
use Rattle.std.proofs.lemmas.Bool.{and_left, and_right}
use Rattle.dh_base.specs.declared.id.Id.{Id}
use Rattle.dh_base.specs.declared.outcome.Outcome.{Outcome}
use Rattle.vote_log.specs.declared.decision.Decision.{Decision}
use Rattle.vote_log.specs.declared.kind.Kind.{Kind}
use Rattle.vote_log.specs.Entry.{Entry}
use Rattle.vote_log.specs.Deciding.{Started, commits, aborts, is_of, is_start, is_commit, first_start_from, first_start, followed, commit_place, all_committed, completes, breaks_off, decided_after, at_place, outcome_from, outcome_of}

abbrev pub entry_of : Kind → ℕ → Id → Entry
entry_of kind num deal = record { kind = kind; num = num; deal = deal }

-- the first of two that is there
abbrev pub or_later : {X : Type 0} → Option X → Option X → Option X
or_later None later = later
or_later (Some x) later = Some x

pub or_none : {X : Type 0} (o : Option X) → or_later o None ≡ o
or_none None = refl
or_none (Some x) = refl

-- what holds of the empty list, and stays so under pushes, holds of each list
pub by_pushes : {X : Type 0} (P : List X → Type 0) → ((l : List X) (x : X) → P l → P (l ++ x ∷ [])) → (front rest : List X) → P front → P (front ++ rest)
by_pushes P step front [] h = subst P (sym (append-nil front)) h
by_pushes P step front (x ∷ rest) h = subst P (append_assoc front (x ∷ []) rest) (by_pushes P step (front ++ x ∷ []) rest (step front x h))

abbrev pub start_with : Id → ℕ → Option Started → Entry → Option Started
start_with deal place None entry = first_start_from deal place (entry ∷ [])
start_with deal place (Some start) entry = Some (followed start entry)

start_from_push : (deal : Id) (place : ℕ) (front : List Entry) (entry : Entry) → first_start_from deal place (front ++ entry ∷ []) ≡ start_with deal (place + length front) (first_start_from deal place front) entry
start_from_push deal place [] entry = ap (λ p. first_start_from deal p (entry ∷ [])) (sym (add-zero place))
start_from_push deal place (x ∷ front) entry =
    go (is_start deal x) (start_from_push deal (place + 1) front entry ∙ ap (λ p. start_with deal p (first_start_from deal (place + 1) front) entry) (omega arith))
  where
    go : (b : Bool) → first_start_from deal (place + 1) (front ++ entry ∷ []) ≡ start_with deal (place + length (x ∷ front)) (first_start_from deal (place + 1) front) entry
        → cond b (Some (record { at = place; parties = x.num; since = front ++ entry ∷ [] })) (first_start_from deal (place + 1) (front ++ entry ∷ [])) ≡ start_with deal (place + length (x ∷ front)) (cond b (Some (record { at = place; parties = x.num; since = front })) (first_start_from deal (place + 1) front)) entry
    go true ih = refl
    go false ih = ih

pub start_push : (log : List Entry) (deal : Id) (entry : Entry) → first_start (log ++ entry ∷ []) deal ≡ start_with deal (length log) (first_start log deal) entry
start_push log deal entry = start_from_push deal 0 log entry ∙ ap (λ p. start_with deal p (first_start log deal) entry) (omega arith)

length_from : (deal : Id) (place : ℕ) (log : List Entry) (start : Started) → first_start_from deal place log ≡ Some start → start.at + 1 + length start.since ≡ place + length log
length_from deal place [] start e = absurd cc
length_from deal place (x ∷ log) start e = go (is_start deal x) (λ h. length_from deal (place + 1) log start h) e
  where
    go : (b : Bool) → (first_start_from deal (place + 1) log ≡ Some start → start.at + 1 + length start.since ≡ place + 1 + length log) → cond b (Some (record { at = place; parties = x.num; since = log })) (first_start_from deal (place + 1) log) ≡ Some start → start.at + 1 + length start.since ≡ place + length (x ∷ log)
    go true next e =
        let here : Started = record { at = place; parties = x.num; since = log } in
        let same : here ≡ start = cc in
        subst (λ (s : Started). s.at + 1 + length s.since ≡ place + length (x ∷ log)) same (omega arith)
    go false next e = let ih = next e in omega arith

-- the entries up to the start and those since are the log
pub length_since : (log : List Entry) (deal : Id) (start : Started) → first_start log deal ≡ Some start → start.at + 1 + length start.since ≡ length log
length_since log deal start e = let h = length_from deal 0 log start e in omega arith

position_push : {X : Type 0} (t : X → Bool) (i : ℕ) (l : List X) (x : X) → position_from t i (l ++ x ∷ []) ≡ or_later (position_from t i l) (cond (t x) (Some (i + length l)) None)
position_push t i [] x = ap (λ p. cond (t x) (Some p) None) (sym (add-zero i))
position_push t i (y ∷ l) x =
    go (t y) (position_push t (i + 1) l x ∙ ap (λ p. or_later (position_from t (i + 1) l) (cond (t x) (Some p) None)) (omega arith))
  where
    go : (b : Bool) → position_from t (i + 1) (l ++ x ∷ []) ≡ or_later (position_from t (i + 1) l) (cond (t x) (Some (i + length (y ∷ l))) None)
        → cond b (Some i) (position_from t (i + 1) (l ++ x ∷ [])) ≡ or_later (cond b (Some i) (position_from t (i + 1) l)) (cond (t x) (Some (i + length (y ∷ l))) None)
    go true ih = refl
    go false ih = ih

pub place_push : (log : List Entry) (deal : Id) (start : Started) (index : ℕ) (entry : Entry) → first_start log deal ≡ Some start
    → commit_place deal (followed start entry) index ≡ or_later (commit_place deal start index) (cond (is_commit deal index entry) (Some (length log)) None)
place_push log deal start index entry e =
    position_push (is_commit deal index) (start.at + 1) start.since entry ∙ ap (λ p. or_later (commit_place deal start index) (cond (is_commit deal index entry) (Some p) None)) (length_since log deal start e)

-- an entry that is no commit of the index changes nothing for it
pub place_other : (deal : Id) (start : Started) (index : ℕ) (entry : Entry) → is_commit deal index entry ≡ false → commit_place deal (followed start entry) index ≡ commit_place deal start index
place_other deal start index entry e =
    position_push (is_commit deal index) (start.at + 1) start.since entry ∙ (ap (λ b. or_later (commit_place deal start index) (cond b (Some (start.at + 1 + length start.since)) None)) e ∙ or_none (commit_place deal start index))

later_at : (place : ℕ) (c : Option Outcome) (x y : Option Decision) → at_place place c (or_later x y) ≡ or_later (at_place place c x) y
later_at place None x y = refl
later_at place (Some c) x y = refl

from_push : (deal : Id) (front rest : List Entry) (entry : Entry) → outcome_from deal front (rest ++ entry ∷ []) ≡ or_later (outcome_from deal front rest) (at_place (length (front ++ rest)) (decided_after deal (first_start (front ++ rest) deal) entry) None)
from_push deal front [] entry = ap (λ (l : List Entry). at_place (length l) (decided_after deal (first_start l deal) entry) None) (sym (append-nil front))
from_push deal front (x ∷ rest) entry =
    let now = decided_after deal (first_start front deal) x in
    let later = outcome_from deal (front ++ x ∷ []) rest in
    let ih = from_push deal (front ++ x ∷ []) rest entry in
    let assoc = append_assoc front (x ∷ []) rest in
    ap (at_place (length front) now) (ih ∙ ap (λ (l : List Entry). or_later later (at_place (length l) (decided_after deal (first_start l deal) entry) None)) assoc)
    ∙ later_at (length front) now later (at_place (length (front ++ x ∷ rest)) (decided_after deal (first_start (front ++ x ∷ rest) deal) entry) None)

-- what one more entry decides, where nothing is decided before it
abbrev pub decision_at : ℕ → Option Outcome → Option Decision
decision_at place decided = at_place place decided None

pub outcome_push : (log : List Entry) (deal : Id) (entry : Entry) → outcome_of (log ++ entry ∷ []) deal ≡ or_later (outcome_of log deal) (decision_at (length log) (decided_after deal (first_start log deal) entry))
outcome_push log deal entry = from_push deal [] log entry

-- an entry of another deal decides nothing and is no commit
pub other_decides : (deal : Id) (start : Option Started) (entry : Entry) → is_of deal entry ≡ false → decided_after deal start entry ≡ None
other_decides deal None entry e = refl
other_decides deal (Some start) entry e =
    let c : completes deal start entry ≡ false = and_right (commits entry.kind) _ (and_left (is_of deal entry) (all_committed deal (followed start entry)) e) in
    let b : breaks_off deal start entry ≡ false = and_right (aborts entry.kind) _ (and_left (is_of deal entry) _ e) in
    rw (c, b) refl

pub other_commit : (deal : Id) (index : ℕ) (entry : Entry) → is_of deal entry ≡ false → is_commit deal index entry ≡ false
other_commit deal index entry e = and_right (commits entry.kind) _ (and_left (is_of deal entry) _ e)
