-- The tests of the definitions against the sentences on places of a log.
use Rattle.std.proofs.Common.{◌≡◌, ℕ, zero, suc, ◌+◌, ◌-◌, ◌<◌, nat_lt, eqb, Bool, true, false, cond, not, ◌&&◌, Option, Some, None, is_some, List, [], ◌∷◌, take, drop, slice_get, refl, ap, sym, ◌∙◌, subst, ⊎_elim, ◌⊎◌, arith}
use Rattle.std.proofs.lemmas.Bool.{and_parts, eq-eqb, eqb-true, lt-ltb, ltb-true, cases_order, false_from_ne_true, true≢false}
use Rattle.dh_base.specs.declared.id.Id.{Id}
use Rattle.dh_base.specs.declared.outcome.Outcome.{Outcome}
use Rattle.dh_base.specs.declared.outcome.Outcome.TheVariants.{Commit as ToCommit, Abort as ToAbort}
use Rattle.vote_log.specs.declared.kind.Kind.{Kind}
use Rattle.vote_log.specs.declared.kind.Kind.TheVariants.{Start, Commit, Abort}
use Rattle.vote_log.specs.Entry.{Entry}
use Rattle.vote_log.specs.Deciding.{Started, is_of, is_start, is_commit, first_start_from, first_start, followed, commit_place, has_committed, all_committed, decided_by, decided_after}
use Rattle.vote_log.specs.Places.{HoldsAt, IsFirstStart, HasCommitted, CommitDecides, AbortDecides, IsDecisive}
use Rattle.vote_log.proofs.Ids.{same_from_bytes, bytes_eq-refl}
use Rattle.vote_log.proofs.Below.{all_at, all_from, all_fails, one_fails}
use Rattle.vote_log.proofs.Pushed.{entry_of}
use Rattle.vote_log.proofs.Counted.{started_push}
use Rattle.vote_log.proofs.Lists.{get_take, get_take_within, get_drop, take_one_more, position_found, position_none}

start_is : (deal : Id) (kind : Kind) (num : ℕ) (id : Id) → is_start deal (entry_of kind num id) ≡ true → entry_of kind num id ≡ entry_of Start num deal
start_is deal Start num id e = ap (entry_of Start num) (sym (same_from_bytes deal id e))
start_is deal Commit num id e = absurd (true≢false (sym e))
start_is deal Abort num id e = absurd (true≢false (sym e))

commit_is : (deal : Id) (index : ℕ) (kind : Kind) (num : ℕ) (id : Id) → is_commit deal index (entry_of kind num id) ≡ true → entry_of kind num id ≡ entry_of Commit index deal
commit_is deal index Start num id e = absurd (true≢false (sym e))
commit_is deal index Commit num id e =
    let parts = and_parts (is_of deal (entry_of Commit num id)) (eqb index num) e in
    ap (entry_of Commit num) (sym (same_from_bytes deal id parts.0)) ∙ ap (λ n. entry_of Commit n deal) (sym (eqb-true index num parts.1))
commit_is deal index Abort num id e = absurd (true≢false (sym e))

is_commit_of : (deal : Id) (index : ℕ) → is_commit deal index (entry_of Commit index deal) ≡ true
is_commit_of deal index = rw (bytes_eq-refl deal, eq-eqb index index refl) refl

-- where the first start is found
record StartsAt (deal : Id) (place : ℕ) (log : List Entry) (start : Started) : Type 0 where
  index : ℕ
  at : start.at ≡ place + index
  here : HoldsAt log index Start start.parties deal
  first : (earlier other : ℕ) → earlier < index → HoldsAt log earlier Start other deal → ⊥
  since : start.since ≡ drop (suc index) log

start_found : (deal : Id) (place : ℕ) (log : List Entry) (start : Started) → first_start_from deal place log ≡ Some start → StartsAt deal place log start
start_found deal place [] start e = absurd cc
start_found deal place (x ∷ log) start e = go (is_start deal x) refl e (λ h. start_found deal (place + 1) log start h)
  where
    go : (b : Bool) → is_start deal x ≡ b → cond b (Some (record { at = place; parties = x.num; since = log })) (first_start_from deal (place + 1) log) ≡ Some start
        → (first_start_from deal (place + 1) log ≡ Some start → StartsAt deal (place + 1) log start) → StartsAt deal place (x ∷ log) start
    go true is e next =
        let here : Started = record { at = place; parties = x.num; since = log } in
        let same : here ≡ start = cc in
        subst (StartsAt deal place (x ∷ log)) same (record {
          index = 0;
          at = omega arith;
          here = ap (λ y. Some y) (start_is deal x.kind x.num x.deal is);
          first = λ earlier other less h. absurd (omega arith);
          since = refl;
        })
    go false is e next =
        let ih = next e in
        record {
          index = suc ih.index;
          at = omega (arith, ih.at);
          here = ih.here;
          first = before ih.first;
          since = ih.since;
        }
      where
        before : {i : ℕ} → ((earlier other : ℕ) → earlier < i → HoldsAt log earlier Start other deal → ⊥) → (earlier other : ℕ) → earlier < suc i → HoldsAt (x ∷ log) earlier Start other deal → ⊥
        before f zero other less h =
            let same : x ≡ entry_of Start other deal = cc in
            let yes' : is_start deal x ≡ true = ap (is_start deal) same ∙ bytes_eq-refl deal in
            true≢false (sym yes' ∙ is)
        before f (suc earlier) other less h = f earlier other (omega arith) h

-- where a deal's first start stands
pub start_held : (log : List Entry) (deal : Id) (start : Started) → first_start log deal ≡ Some start → (place : ℕ) × HoldsAt log place Start start.parties deal
start_held log deal start e = let h = start_found deal 0 log start e in (h.index, h.here)

start_nowhere : (deal : Id) (place : ℕ) (log : List Entry) → first_start_from deal place log ≡ None → (p other : ℕ) → HoldsAt log p Start other deal → ⊥
start_nowhere deal place [] e p other h = absurd cc
start_nowhere deal place (x ∷ log) e p other h = go (is_start deal x) refl e p h (λ n q g. start_nowhere deal (place + 1) log n q other g)
  where
    go : (b : Bool) → is_start deal x ≡ b → cond b (Some (record { at = place; parties = x.num; since = log })) (first_start_from deal (place + 1) log) ≡ None → (p : ℕ) → HoldsAt (x ∷ log) p Start other deal
        → (first_start_from deal (place + 1) log ≡ None → (q : ℕ) → HoldsAt log q Start other deal → ⊥) → ⊥
    go true is e p h next = absurd cc
    go false is e zero h next =
        let same : x ≡ entry_of Start other deal = cc in
        let yes' : is_start deal x ≡ true = ap (is_start deal) same ∙ bytes_eq-refl deal in
        true≢false (sym yes' ∙ is)
    go false is e (suc p) h next = next e p h

same_first : (log : List Entry) (deal : Id) (a m b n : ℕ) → IsFirstStart log deal a m → IsFirstStart log deal b n → (a ≡ b) × (m ≡ n)
same_first log deal a m b n x y =
    ⊎_elim
    (λ (e : a ≡ b).
    let both : Some (entry_of Start m deal) ≡ Some (entry_of Start n deal) = sym x.here ∙ (ap (slice_get log) e ∙ y.here) in
    let entries : entry_of Start m deal ≡ entry_of Start n deal = cc in
    (e, ap (λ (z : Entry). z.num) entries))
    (λ (h : (a < b) ⊎ (b < a)). ⊎_elim (λ (less : a < b). absurd (y.first a m less x.here)) (λ (more : b < a). absurd (x.first b n more y.here)) h)
    (cases_order a b)

-- the first start before place p
module _ (log : List Entry) (deal : Id) (p : ℕ) where
  front_start : (start : Started) → first_start (take p log) deal ≡ Some start → IsFirstStart log deal start.at start.parties × (start.at < p) × (start.since ≡ drop (suc start.at) (take p log))
  front_start start e =
      let f = start_found deal 0 (take p log) start e in
      let at' : f.index ≡ start.at = omega (arith, f.at) in
      let within : f.index < p = get_take_within log p f.index (entry_of Start start.parties deal) f.here in
      let first' : IsFirstStart log deal f.index start.parties = record {
        here = sym (get_take log p f.index within) ∙ f.here;
        first = λ earlier other less h. f.first earlier other less (get_take log p earlier (omega (arith, within)) ∙ h);
      } in
      (subst (λ i. IsFirstStart log deal i start.parties) at' first', omega (arith, within, at'), f.since ∙ ap (λ i. drop (suc i) (take p log)) at')

  pub front_has : (a n : ℕ) → IsFirstStart log deal a n → a < p → (o : Option Started) → first_start (take p log) deal ≡ o
      → (start : Started) × (o ≡ Some start) × (start.at ≡ a) × (start.parties ≡ n)
  front_has a n first less None e = absurd (start_nowhere deal 0 (take p log) e a n (get_take log p a less ∙ first.here))
  front_has a n first less (Some start) e =
      let same = same_first log deal start.at start.parties a n (front_start start e).0 first in
      (start, refl, same.0, same.1)

  -- a commit since the start and before place p
  committed_to : (start : Started) (k : ℕ) → first_start (take p log) deal ≡ Some start → has_committed deal start k ≡ true → HasCommitted log deal start.at p k
  committed_to start k e has = go (commit_place deal start k) refl has
    where
      go : (o : Option ℕ) → commit_place deal start k ≡ o → is_some o ≡ true → HasCommitted log deal start.at p k
      go None is has = absurd (true≢false (sym has))
      go (Some q) is has =
          let f = position_found (is_commit deal k) (start.at + 1) start.since q is in
          let front = front_start start e in
          let place : ℕ = suc start.at + f.index in
          let get : slice_get (take p log) place ≡ Some f.element = sym (get_drop (take p log) (suc start.at) f.index) ∙ (ap (λ l. slice_get l f.index) (sym front.2) ∙ f.here) in
          let within : place < p = get_take_within log p place f.element get in
          let x : Entry = f.element in
          (place, omega arith, within, sym (get_take log p place within) ∙ (get ∙ ap (λ y. Some y) (commit_is deal k x.kind x.num x.deal f.passes)))

  committed_from : (start : Started) (k : ℕ) → first_start (take p log) deal ≡ Some start → HasCommitted log deal start.at p k → has_committed deal start k ≡ true
  committed_from start k e h = go (commit_place deal start k) refl
    where
      go : (o : Option ℕ) → commit_place deal start k ≡ o → is_some o ≡ true
      go (Some q) is = refl
      go None is =
          let front = front_start start e in
          let i : ℕ = h.0 - suc start.at in
          let here : slice_get start.since i ≡ Some (entry_of Commit k deal) =
          ap (λ l. slice_get l i) front.2 ∙ (get_drop (take p log) (suc start.at) i ∙ (ap (slice_get (take p log)) (omega (arith, h.1)) ∙ (get_take log p h.0 h.2 ∙ h.3))) in
          absurd (true≢false (sym (is_commit_of deal k) ∙ position_none (is_commit deal k) (start.at + 1) start.since is i (entry_of Commit k deal) here))

-- what the entry at place p decides, after all entries before it
abbrev pub decided_at : Id → List Entry → Option Entry → Option Outcome
decided_at deal front None = None
decided_at deal front (Some entry) = decided_after deal (first_start front deal) entry

abbrev pub decisive : List Entry → Id → ℕ → Option Outcome
decisive log deal p = decided_at deal (take p log) (slice_get log p)

-- decided by a commit, and by an abort
commit_says : (deal id : Id) (start : Started) (num : ℕ) (o : Outcome) → decided_by deal start (entry_of Commit num id) ≡ Some o
    → (ToCommit ≡ o) × (is_of deal (entry_of Commit num id) ≡ true) × (all_committed deal (followed start (entry_of Commit num id)) ≡ true)
commit_says deal id start num o e = go (is_of deal (entry_of Commit num id)) (all_committed deal (followed start (entry_of Commit num id))) e
  where
    go : (b c : Bool) → cond (b && c) (Some ToCommit) None ≡ Some o → (ToCommit ≡ o) × (b ≡ true) × (c ≡ true)
    go true true e = (cc, refl, refl)
    go true false e = absurd cc
    go false c e = absurd cc

abort_says : (deal id : Id) (start : Started) (num : ℕ) (o : Outcome) → decided_by deal start (entry_of Abort num id) ≡ Some o
    → (ToAbort ≡ o) × (is_of deal (entry_of Abort num id) ≡ true) × (nat_lt num start.parties ≡ true) × (all_committed deal start ≡ false)
abort_says deal id start num o e = go (is_of deal (entry_of Abort num id)) (nat_lt num start.parties) (all_committed deal start) e
  where
    go : (b c d : Bool) → cond (b && (c && not d)) (Some ToAbort) None ≡ Some o → (ToAbort ≡ o) × (b ≡ true) × (c ≡ true) × (d ≡ false)
    go true true false e = (cc, refl, refl, refl)
    go true true true e = absurd cc
    go true false d e = absurd cc
    go false c d e = absurd cc

module _ (log : List Entry) (deal : Id) (p : ℕ) where
  next_start : (start : Started) (entry : Entry) → first_start (take p log) deal ≡ Some start → slice_get log p ≡ Some entry → first_start (take (suc p) log) deal ≡ Some (followed start entry)
  next_start start entry e get = ap (λ l. first_start l deal) (take_one_more log p entry get) ∙ started_push (take p log) deal start entry e

  kind_decides : (start : Started) (kind : Kind) (num : ℕ) (id : Id) (o : Outcome) → first_start (take p log) deal ≡ Some start → slice_get log p ≡ Some (entry_of kind num id)
      → decided_by deal start (entry_of kind num id) ≡ Some o → IsDecisive log deal p o
  kind_decides start Start num id o e get d = absurd cc
  kind_decides start Commit num id o e get d =
      let says = commit_says deal id start num o d in
      let front = front_start log deal p start e in
      let holds : HoldsAt log p Commit num deal = get ∙ ap (λ x. Some (entry_of Commit num x)) (sym (same_from_bytes deal id says.1)) in
      let each : (k : ℕ) → k < start.parties → HasCommitted log deal start.at (suc p) k =
      λ k less. committed_to log deal (suc p) (followed start (entry_of Commit num id)) k (next_start start (entry_of Commit num id) e get) (all_at (has_committed deal (followed start (entry_of Commit num id))) start.parties k says.2 less) in
      let decides : CommitDecides log deal p = record { start = start.at; parties = start.parties; index = num; first = front.0; after = front.1; here = holds; complete = each } in
      subst (IsDecisive log deal p) says.0 decides
  kind_decides start Abort num id o e get d =
      let says = abort_says deal id start num o d in
      let front = front_start log deal p start e in
      let holds : HoldsAt log p Abort num deal = get ∙ ap (λ x. Some (entry_of Abort num x)) (sym (same_from_bytes deal id says.1)) in
      let one = one_fails (has_committed deal start) start.parties says.3 in
      let lacks : HasCommitted log deal start.at p one.0 → ⊥ = λ h. true≢false (sym (committed_from log deal p start one.0 e h) ∙ one.2) in
      let decides : AbortDecides log deal p = record {
        start = start.at;
        parties = start.parties;
        index = num;
        first = front.0;
        after = front.1;
        here = holds;
        party = ltb-true num start.parties says.2;
        missing = one.0;
        other = one.1;
        lacks = lacks;
      } in
      subst (IsDecisive log deal p) says.0 decides

  -- a decisive place by the tests is one by the sentence
  pub sentence_from : (o : Outcome) → decisive log deal p ≡ Some o → IsDecisive log deal p o
  sentence_from o e = go (slice_get log p) refl e
    where
      started : (entry : Entry) (s : Option Started) → slice_get log p ≡ Some entry → first_start (take p log) deal ≡ s → decided_after deal s entry ≡ Some o → IsDecisive log deal p o
      started entry None get is d = absurd cc
      started entry (Some start) get is d = kind_decides start entry.kind entry.num entry.deal o is get d

      go : (x : Option Entry) → slice_get log p ≡ x → decided_at deal (take p log) x ≡ Some o → IsDecisive log deal p o
      go None get d = absurd cc
      go (Some entry) get d = started entry (first_start (take p log) deal) get refl d

  decided_here : (start : Started) (entry : Entry) (o : Outcome) → first_start (take p log) deal ≡ Some start → slice_get log p ≡ Some entry → decided_by deal start entry ≡ Some o → decisive log deal p ≡ Some o
  decided_here start entry o e get d = ap (decided_at deal (take p log)) get ∙ (ap (λ s. decided_after deal s entry) e ∙ d)

  -- and the other way round
  pub sentence_to : (o : Outcome) → IsDecisive log deal p o → decisive log deal p ≡ Some o
  sentence_to ToCommit d =
      let found = front_has log deal p d.start d.parties d.first d.after (first_start (take p log) deal) refl in
      let start = found.0 in
      let entry = entry_of Commit d.index deal in
      let all : all_committed deal (followed start entry) ≡ true = all_from (has_committed deal (followed start entry)) start.parties
      (λ k less. committed_from log deal (suc p) (followed start entry) k (next_start start entry found.1 d.here) (subst (λ i. HasCommitted log deal i (suc p) k) (sym found.2) (d.complete k (omega (arith, found.3))))) in
      decided_here start entry ToCommit found.1 d.here (rw (bytes_eq-refl deal, all) refl)
  sentence_to ToAbort d =
      let found = front_has log deal p d.start d.parties d.first d.after (first_start (take p log) deal) refl in
      let start = found.0 in
      let entry = entry_of Abort d.index deal in
      let fails : has_committed deal start d.missing ≡ false = false_from_ne_true (has_committed deal start d.missing)
      (λ h. d.lacks (subst (λ i. HasCommitted log deal i p d.missing) found.2 (committed_to log deal p start d.missing found.1 h))) in
      let open' : all_committed deal start ≡ false = all_fails (has_committed deal start) d.missing start.parties (omega (arith, found.3, d.other)) fails in
      decided_here start entry ToAbort found.1 d.here (rw (bytes_eq-refl deal, lt-ltb d.index start.parties (omega (arith, found.3, d.party)), open') refl)
