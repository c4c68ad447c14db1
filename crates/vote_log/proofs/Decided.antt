-- What a log decides stays decided, and an abort decides.
use Rattle.std.proofs.Common.{◌≡◌, ℕ, zero, suc, ◌<◌, Bool, true, false, cond, ◌&&◌, Option, Some, None, IsSome, is_some, List, [], ◌∷◌, ◌++◌, length, refl, ap, sym, ◌∙◌, subst, arith, append_assoc}
use Rattle.std.proofs.lemmas.Bool.{lt-ltb, true≢false}
use Rattle.dh_base.specs.declared.id.Id.{Id}
use Rattle.dh_base.specs.declared.outcome.Outcome.{Outcome}
use Rattle.dh_base.specs.declared.outcome.Outcome.TheVariants.{Commit as ToCommit, Abort as ToAbort}
use Rattle.vote_log.specs.declared.decision.Decision.{Decision}
use Rattle.vote_log.specs.declared.kind.Kind.{Kind}
use Rattle.vote_log.specs.declared.kind.Kind.TheVariants.{Start, Commit, Abort}
use Rattle.vote_log.specs.Entry.{Entry}
use Rattle.vote_log.specs.Deciding.{Started, is_of, is_commit, first_start, followed, has_committed, all_committed, decided_by, decided_after, outcome_of}
use Rattle.vote_log.proofs.Ids.{bytes_eq-refl}
use Rattle.vote_log.proofs.Below.{all_same}
use Rattle.vote_log.proofs.Pushed.{entry_of, or_later, by_pushes, start_with, start_push, place_other, decision_at, outcome_push, other_commit}
use Rattle.vote_log.proofs.Counted.{decision_push}

pub stays : (log more : List Entry) (deal : Id) (d : Decision) → outcome_of log deal ≡ Some d → outcome_of (log ++ more) deal ≡ Some d
stays log more deal d e =
    by_pushes (λ (l : List Entry). outcome_of l deal ≡ Some d)
    (λ l x h. outcome_push l deal x ∙ ap (λ o. or_later o (decision_at (length l) (decided_after deal (first_start l deal) x))) h)
    log more e

-- after its start the deal is not committed by all
abbrev Quiet : Id → Option Started → Type 0
Quiet deal None = Unit {0}
Quiet deal (Some start) = 0 < start.parties → all_committed deal start ≡ false

quiet_new : (deal : Id) (place n : ℕ) → 0 < n → all_committed deal (record { at = place; parties = n; since = [] }) ≡ false
quiet_new deal place zero more = absurd (omega arith)
quiet_new deal place (suc n) more = refl

quiet_other : (deal : Id) (start : Started) (entry : Entry) → ((index : ℕ) → is_commit deal index entry ≡ false) → all_committed deal start ≡ false → all_committed deal (followed start entry) ≡ false
quiet_other deal start entry never was =
    all_same (has_committed deal (followed start entry)) (has_committed deal start) start.parties (λ k less. ap is_some (place_other deal start k entry (never k))) ∙ was

quiet_commit : (deal id : Id) (start : Started) (n : ℕ) (b c : Bool) → is_of deal (entry_of Commit n id) ≡ b → all_committed deal (followed start (entry_of Commit n id)) ≡ c
    → cond (b && c) (Some ToCommit) None ≡ None → all_committed deal start ≡ false → c ≡ false
quiet_commit deal id start n b false of is none was = refl
quiet_commit deal id start n true true of is none was = absurd cc
quiet_commit deal id start n false true of is none was =
    sym is ∙ quiet_other deal start (entry_of Commit n id) (λ index. other_commit deal index (entry_of Commit n id) of) was

quiet_step : (deal id : Id) (place : ℕ) (start : Option Started) (kind : Kind) (n : ℕ) → Quiet deal start → decided_after deal start (entry_of kind n id) ≡ None → Quiet deal (start_with deal place start (entry_of kind n id))
quiet_step deal id place None Start n q none =
    elim (is_of deal (entry_of Start n id)) as (λ b. Quiet deal (cond b (Some (record { at = place; parties = n; since = [] })) None)) [ true ↦ quiet_new deal place n | false ↦ tt ]
quiet_step deal id place None Commit n q none = tt
quiet_step deal id place None Abort n q none = tt
quiet_step deal id place (Some start) Start n q none = λ more. quiet_other deal start (entry_of Start n id) (λ index. refl) (q more)
quiet_step deal id place (Some start) Commit n q none =
    λ more. quiet_commit deal id start n (is_of deal (entry_of Commit n id)) (all_committed deal (followed start (entry_of Commit n id))) refl refl none (q more)
quiet_step deal id place (Some start) Abort n q none = λ more. quiet_other deal start (entry_of Abort n id) (λ index. refl) (q more)

both_none : {X : Type 0} (a b : Option X) → or_later a b ≡ None → (a ≡ None) × (b ≡ None)
both_none None b e = (refl, e)
both_none (Some x) b e = absurd cc

at_none : (place : ℕ) (o : Option Outcome) → decision_at place o ≡ None → o ≡ None
at_none place None e = refl
at_none place (Some x) e = absurd cc

-- a deal that is started and undecided lacks a commit
pub quiet : (log : List Entry) (deal : Id) → outcome_of log deal ≡ None → Quiet deal (first_start log deal)
quiet log deal =
    by_pushes (λ (l : List Entry). outcome_of l deal ≡ None → Quiet deal (first_start l deal))
    (λ l x ih none.
    let both = both_none (outcome_of l deal) (decision_at (length l) (decided_after deal (first_start l deal) x)) (sym (outcome_push l deal x) ∙ none) in
    subst (Quiet deal) (sym (start_push l deal x)) (quiet_step deal x.deal (length l) (first_start l deal) x.kind x.num (ih both.0) (at_none (length l) (decided_after deal (first_start l deal) x) both.1)))
    [] log (λ none. tt)

pub lacks : (log : List Entry) (deal : Id) (start : Started) → outcome_of log deal ≡ None → first_start log deal ≡ Some start → 0 < start.parties → all_committed deal start ≡ false
lacks log deal start none e more = subst (Quiet deal) e (quiet log deal none) more

-- an abort by an index of the deal decides, where nothing is decided before it
pub abort_now : (log : List Entry) (deal : Id) (start : Started) (index : ℕ) → outcome_of log deal ≡ None → first_start log deal ≡ Some start → index < start.parties
    → outcome_of (log ++ entry_of Abort index deal ∷ []) deal ≡ Some (record { outcome = ToAbort; at = length log })
abort_now log deal start index none e less =
    decision_push log deal start (entry_of Abort index deal) e
    ∙ (ap (λ o. or_later o (decision_at (length log) (decided_by deal start (entry_of Abort index deal)))) none
    ∙ rw (bytes_eq-refl deal, lt-ltb index start.parties less, lacks log deal start none e (omega arith)) refl)

abort_by : (log : List Entry) (deal : Id) (start : Started) (index : ℕ) (o : Option Decision) → outcome_of log deal ≡ o → first_start log deal ≡ Some start → index < start.parties
    → IsSome (outcome_of (log ++ entry_of Abort index deal ∷ []) deal)
abort_by log deal start index (Some d) is e less = rw (stays log (entry_of Abort index deal ∷ []) deal d is) refl
abort_by log deal start index None is e less = rw (abort_now log deal start index is e less) refl

is_some_stays : (log more : List Entry) (deal : Id) (o : Option Decision) → outcome_of log deal ≡ o → IsSome o → IsSome (outcome_of (log ++ more) deal)
is_some_stays log more deal None e h = absurd (true≢false (sym h))
is_some_stays log more deal (Some d) e h = rw (stays log more deal d e) refl

pub abort_found : (front rest : List Entry) (deal : Id) (start : Started) (index : ℕ) → first_start front deal ≡ Some start → index < start.parties → IsSome (outcome_of (front ++ entry_of Abort index deal ∷ rest) deal)
abort_found front rest deal start index e less =
    subst (λ (l : List Entry). IsSome (outcome_of l deal)) (append_assoc front (entry_of Abort index deal ∷ []) rest)
    (is_some_stays (front ++ entry_of Abort index deal ∷ []) rest deal (outcome_of (front ++ entry_of Abort index deal ∷ []) deal) refl (abort_by front deal start index (outcome_of front deal) refl e less))
