-- The tally of a deal stands for the log.
use Rattle.std.proofs.Common.{◌≡◌, ℕ, ◌+◌, ◌<◌, ◌≤◌, nat_lt, Bool, true, false, cond, not, ◌&&◌, eqb, Option, Some, None, is_some, List, [], ◌∷◌, ◌++◌, length, take, get_or, set, refl, ap, sym, ◌∙◌, subst, ⊎_elim, arith}
use Rattle.std.proofs.lemmas.Bool.{eq-eqb, ne_eqb, cases_eq, and_right}
use Rattle.std.proofs.lemmas.List.{get_or-set_same, get_or-set_other, length-set, get_or-replicate, take_more, length-take-le}
use Rattle.dh_base.specs.declared.id.Id.{Id}
use Rattle.dh_base.specs.declared.outcome.Outcome.{Outcome}
use Rattle.dh_base.specs.declared.outcome.Outcome.TheVariants.{Commit as ToCommit, Abort as ToAbort}
use Rattle.vote_log.specs.declared.decision.Decision.{Decision}
use Rattle.vote_log.specs.declared.kind.Kind.{Kind}
use Rattle.vote_log.specs.declared.kind.Kind.TheVariants.{Start, Commit, Abort}
use Rattle.vote_log.specs.declared.tally.Tally.{Tally}
use Rattle.vote_log.specs.Entry.{Entry, IsInRange}
use Rattle.vote_log.specs.Deciding.{Started, starts, is_of, is_commit, first_start, followed, commit_place, has_committed, all_below, all_committed, decided_by, decided_after, outcome_of}
use Rattle.vote_log.specs.Tallies.{IsTally, StandsFor, IsSmall, all_placed, placed_with, decided_first, opened_tally, committed_tally, aborted_tally, tally_with, tally_after}
use Rattle.vote_log.proofs.Below.{all_same}
use Rattle.vote_log.proofs.Pushed.{entry_of, or_later, or_none, by_pushes, start_with, start_push, place_push, place_other, decision_at, outcome_push, other_decides, other_commit}

pub start_before : (log : List Entry) (deal : Id) (x : Entry) (o : Option Started) → first_start log deal ≡ o → first_start (log ++ x ∷ []) deal ≡ None → first_start log deal ≡ None
start_before log deal x None e h = e
start_before log deal x (Some s) e h =
    let after : first_start (log ++ x ∷ []) deal ≡ Some (followed s x) = start_push log deal x ∙ ap (λ o. start_with deal (length log) o x) e in
    absurd (cc (after, h))

-- a deal that is not started is not decided
pub unstarted : (log : List Entry) (deal : Id) → first_start log deal ≡ None → outcome_of log deal ≡ None
unstarted log deal =
    by_pushes (λ (l : List Entry). first_start l deal ≡ None → outcome_of l deal ≡ None)
    (λ l x ih none.
    let before = start_before l deal x (first_start l deal) refl none in
    outcome_push l deal x ∙ (ap (λ o. or_later o (decision_at (length l) (decided_after deal (first_start l deal) x))) (ih before) ∙ ap (λ s. decision_at (length l) (decided_after deal s x)) before))
    [] log (λ none. refl)

-- what one more entry decides of a started deal
pub decision_push : (log : List Entry) (deal : Id) (start : Started) (entry : Entry) → first_start log deal ≡ Some start
    → outcome_of (log ++ entry ∷ []) deal ≡ or_later (outcome_of log deal) (decision_at (length log) (decided_by deal start entry))
decision_push log deal start entry e =
    outcome_push log deal entry ∙ ap (λ s. or_later (outcome_of log deal) (decision_at (length log) (decided_after deal s entry))) e

pub started_push : (log : List Entry) (deal : Id) (start : Started) (entry : Entry) → first_start log deal ≡ Some start → first_start (log ++ entry ∷ []) deal ≡ Some (followed start entry)
started_push log deal start entry e = start_push log deal entry ∙ ap (λ s. start_with deal (length log) s entry) e

first_same : (o : Option Decision) (b : Bool) (outcome : Outcome) (place : ℕ) → decided_first o b outcome place ≡ or_later o (decision_at place (cond b (Some outcome) None))
first_same (Some d) b outcome place = refl
first_same None true outcome place = refl
first_same None false outcome place = refl

placed_after : (c : List (Option ℕ)) (n p index : ℕ) (o : Option ℕ) → get_or c n None ≡ o → n < length c
    → get_or (cond (is_some o) c (set c n (Some p))) index None ≡ or_later (get_or c index None) (cond (eqb index n) (Some p) None)
placed_after c n p index (Some q) at less =
    ⊎_elim
    (λ (same : index ≡ n). let here : get_or c index None ≡ Some q = ap (λ i. get_or c i None) same ∙ at in rw here refl)
    (λ (other : index ≡ n → ⊥). rw (ne_eqb index n other) (sym (or_none (get_or c index None))))
    (cases_eq index n)
placed_after c n p index None at less =
    ⊎_elim
    (λ (same : index ≡ n).
    let was : get_or c index None ≡ None = ap (λ i. get_or c i None) same ∙ at in
    let is : get_or (set c n (Some p)) index None ≡ Some p = ap (λ i. get_or (set c n (Some p)) i None) same ∙ get_or-set_same c n (Some p) None less in
    rw (is, was, eq-eqb index n same) refl)
    (λ (other : index ≡ n → ⊥).
    get_or-set_other c n index (Some p) None other ∙ (sym (or_none (get_or c index None)) ∙ ap (λ b. or_later (get_or c index None) (cond b (Some p) None)) (sym (ne_eqb index n other))))
    (cases_eq index n)

length-placed_with : (c : List (Option ℕ)) (n p : ℕ) → length (placed_with c n p) ≡ length c
length-placed_with c n p = elim (is_some (get_or c n None)) as (λ b. length (cond b c (set c n (Some p))) ≡ length c) [ true ↦ refl | false ↦ length-set c n (Some p) ]

module _ (log : List Entry) (deal id : Id) (n : ℕ) (same : is_of deal (entry_of Start n id) ≡ true) where
  opened : first_start log deal ≡ None → n ≤ 16 → IsTally (log ++ entry_of Start n id ∷ []) deal (opened_tally (length log) n)
  opened none few = record {
    start = record { at = length log; parties = n; since = [] };
    started = start_push log deal (entry_of Start n id) ∙ (ap (λ s. start_with deal (length log) s (entry_of Start n id)) none ∙ ap (λ b. cond b (Some (record { at = length log; parties = n; since = [] })) None) same);
    at = refl;
    parties = refl;
    few = few;
    indices = refl;
    committed = λ index less. get_or-replicate 16 index None None less;
    decision = sym (outcome_push log deal (entry_of Start n id) ∙ (ap (λ o. or_later o (decision_at (length log) (decided_after deal (first_start log deal) (entry_of Start n id)))) (unstarted log deal none) ∙ ap (λ s. decision_at (length log) (decided_after deal s (entry_of Start n id))) none));
  }

module _ (log : List Entry) (deal : Id) (t : Tally) (entry : Entry) (h : IsTally log deal t) where
  -- an entry that is no commit of the deal and decides nothing
  passed : ((index : ℕ) → is_commit deal index entry ≡ false) → decided_by deal h.start entry ≡ None → IsTally (log ++ entry ∷ []) deal t
  passed never none = record {
    start = followed h.start entry;
    started = started_push log deal h.start entry h.started;
    at = h.at;
    parties = h.parties;
    few = h.few;
    indices = h.indices;
    committed = λ index less. h.committed index less ∙ sym (place_other deal h.start index entry (never index));
    decision = h.decision ∙ sym (decision_push log deal h.start entry h.started ∙ (ap (λ o. or_later (outcome_of log deal) (decision_at (length log) o)) none ∙ or_none (outcome_of log deal)));
  }

module _ (log : List Entry) (deal id : Id) (t : Tally) (n : ℕ) (same : is_of deal (entry_of Start n id) ≡ true) (h : IsTally log deal t) where
  places : n < 16 → (index : ℕ) → index < 16 → get_or (placed_with t.committed n (length log)) index None ≡ commit_place deal (followed h.start (entry_of Commit n id)) index
  places party index less =
      placed_after t.committed n (length log) index (get_or t.committed n None) refl (omega (arith, h.indices))
      ∙ (ap (λ o. or_later o (cond (eqb index n) (Some (length log)) None)) (h.committed index less)
      ∙ (ap (λ b. or_later (commit_place deal h.start index) (cond (b && eqb index n) (Some (length log)) None)) (sym same)
      ∙ sym (place_push log deal h.start index (entry_of Commit n id) h.started)))

  committed_push : n < 16 → IsTally (log ++ entry_of Commit n id ∷ []) deal (committed_tally t n (length log))
  committed_push party =
      let entry = entry_of Commit n id in
      let all : all_placed (placed_with t.committed n (length log)) t.parties ≡ all_committed deal (followed h.start entry) = all_same _ (has_committed deal (followed h.start entry)) t.parties (λ k less. ap is_some (places party k (omega (arith, h.few)))) ∙ ap (all_below (has_committed deal (followed h.start entry))) h.parties in
      record {
        start = followed h.start entry;
        started = started_push log deal h.start entry h.started;
        at = h.at;
        parties = h.parties;
        few = h.few;
        indices = length-placed_with t.committed n (length log) ∙ h.indices;
        committed = places party;
        decision = first_same t.decision (all_placed (placed_with t.committed n (length log)) t.parties) ToCommit (length log)
            ∙ (ap (λ o. or_later o (decision_at (length log) (cond (all_placed (placed_with t.committed n (length log)) t.parties) (Some ToCommit) None))) h.decision
            ∙ (ap (λ b. or_later (outcome_of log deal) (decision_at (length log) (cond b (Some ToCommit) None))) all
            ∙ (ap (λ b. or_later (outcome_of log deal) (decision_at (length log) (cond (b && all_committed deal (followed h.start entry)) (Some ToCommit) None))) (sym same)
            ∙ sym (decision_push log deal h.start entry h.started))));
      }

  aborted_push : IsTally (log ++ entry_of Abort n id ∷ []) deal (aborted_tally t n (length log))
  aborted_push =
      let entry = entry_of Abort n id in
      let all : all_placed t.committed t.parties ≡ all_committed deal h.start = all_same _ (has_committed deal h.start) t.parties (λ k less. ap is_some (h.committed k (omega (arith, h.few)))) ∙ ap (all_below (has_committed deal h.start)) h.parties in
      let stops : (nat_lt n t.parties && not (all_placed t.committed t.parties)) ≡ (nat_lt n h.start.parties && not (all_committed deal h.start)) = rw (all, h.parties) refl in
      record {
        start = followed h.start entry;
        started = started_push log deal h.start entry h.started;
        at = h.at;
        parties = h.parties;
        few = h.few;
        indices = h.indices;
        committed = λ index less. h.committed index less ∙ sym (place_other deal h.start index entry refl);
        decision = first_same t.decision (nat_lt n t.parties && not (all_placed t.committed t.parties)) ToAbort (length log)
            ∙ (ap (λ o. or_later o (decision_at (length log) (cond (nat_lt n t.parties && not (all_placed t.committed t.parties)) (Some ToAbort) None))) h.decision
            ∙ (ap (λ b. or_later (outcome_of log deal) (decision_at (length log) (cond b (Some ToAbort) None))) stops
            ∙ (ap (λ b. or_later (outcome_of log deal) (decision_at (length log) (cond (b && (nat_lt n h.start.parties && not (all_committed deal h.start))) (Some ToAbort) None))) (sym same)
            ∙ sym (decision_push log deal h.start entry h.started))));
      }

stands_with : (log : List Entry) (deal id : Id) (t : Option Tally) (kind : Kind) (n : ℕ) → is_of deal (entry_of Start n id) ≡ true → IsInRange kind n → StandsFor log deal t
    → StandsFor (log ++ entry_of kind n id ∷ []) deal (tally_with t kind n (length log))
stands_with log deal id None Start n same range s = opened log deal id n same s range.1
stands_with log deal id None Commit n same range s = start_push log deal (entry_of Commit n id) ∙ ap (λ o. start_with deal (length log) o (entry_of Commit n id)) s
stands_with log deal id None Abort n same range s = start_push log deal (entry_of Abort n id) ∙ ap (λ o. start_with deal (length log) o (entry_of Abort n id)) s
stands_with log deal id (Some t) Start n same range s = passed log deal t (entry_of Start n id) s (λ index. refl) refl
stands_with log deal id (Some t) Commit n same range s = committed_push log deal id t n same s range
stands_with log deal id (Some t) Abort n same range s = aborted_push log deal id t n same s

pub stands_other : (log : List Entry) (deal : Id) (t : Option Tally) (entry : Entry) → is_of deal entry ≡ false → StandsFor log deal t → StandsFor (log ++ entry ∷ []) deal t
stands_other log deal None entry other s =
    start_push log deal entry ∙ (ap (λ o. start_with deal (length log) o entry) s ∙ ap (λ b. cond b (Some (record { at = length log; parties = entry.num; since = [] })) None) (and_right (starts entry.kind) (is_of deal entry) other))
stands_other log deal (Some t) entry other s = passed log deal t entry s (λ index. other_commit deal index entry other) (other_decides deal (Some s.start) entry other)

-- one more entry
pub stands_push : (log : List Entry) (deal : Id) (t : Option Tally) (entry : Entry) → IsInRange entry.kind entry.num → StandsFor log deal t → StandsFor (log ++ entry ∷ []) deal (tally_after deal t entry (length log))
stands_push log deal t entry range s = go (is_of deal entry) refl
  where
    go : (b : Bool) → is_of deal entry ≡ b → StandsFor (log ++ entry ∷ []) deal (cond b (tally_with t entry.kind entry.num (length log)) t)
    go true same = stands_with log deal entry.deal t entry.kind entry.num same range s
    go false other = stands_other log deal t entry other s

pub IsSmall-tally : (log : List Entry) (deal : Id) (t : Option Tally) → StandsFor log deal t → IsSmall t
IsSmall-tally log deal None s = tt
IsSmall-tally log deal (Some t) s = s.few

-- the outcome that the tally has
pub outcome_none : (log : List Entry) (deal : Id) → StandsFor log deal None → None ≡ outcome_of log deal
outcome_none log deal s = sym (unstarted log deal s)

-- the front with the entry at place i
pub stands_more : (log : List Entry) (deal : Id) (i : ℕ) (t after : Option Tally) (entry : Entry) → i < length log → entry ≡ get_or log i entry → IsInRange entry.kind entry.num
    → StandsFor (take i log) deal t → after ≡ tally_after deal t entry i → StandsFor (take (i + 1) log) deal after
stands_more log deal i t after entry less is range s e =
    let long : length (take i log) ≡ i = length-take-le i log (omega arith) in
    let front : take (i + 1) log ≡ take i log ++ entry ∷ [] = take_more log i entry less ∙ ap (λ x. take i log ++ x ∷ []) (sym is) in
    let pushed : StandsFor (take i log ++ entry ∷ []) deal (tally_after deal t entry (length (take i log))) = stands_push (take i log) deal t entry range s in
    let same : tally_after deal t entry (length (take i log)) ≡ after = ap (tally_after deal t entry) long ∙ sym e in
    subst (λ (l : List Entry). StandsFor l deal after) (sym front) (subst (StandsFor (take i log ++ entry ∷ []) deal) same pushed)
