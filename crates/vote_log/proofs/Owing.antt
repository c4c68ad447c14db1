-- What is owed to the votes of all deals changes by what is owed to the deal of one more entry.
use Rattle.std.proofs.Common.{◌≡◌, ℕ, ◌+◌, ◌≤◌, Bool, true, false, cond, not, ◌&&◌, ◌||◌, Option, Some, None, is_some, List, [], ◌∷◌, ◌++◌, length, refl, ap, sym, ◌∙◌, subst, ⊎_elim, arith, append-nil}
use Rattle.std.specs.Bool.{MatchBool}
use Rattle.std.specs.List.{filter, list_any, sum_by}
use Rattle.std.specs.Str.{bytes_eq}
use Rattle.std.proofs.lemmas.Bool.{cases_Bool, or_parts, or_from, and_right, true≢false}
use Rattle.std.proofs.lemmas.List.Elements.{filter-append}
use Rattle.std.proofs.lemmas.List.Sums.{sum_by-cons, sum_by_push}
use Rattle.dh_base.specs.declared.id.Id.{Id}
use Rattle.vote_log.specs.declared.decision.Decision.{Decision}
use Rattle.vote_log.specs.Entry.{Entry}
use Rattle.vote_log.specs.Deciding.{Started, starts, is_of, is_start, first_start_from, first_start, followed, has_committed, outcome_of}
use Rattle.vote_log.specs.Owed.{uncommitted, owed_by, started_deals, owed_of}
use Rattle.vote_log.proofs.Ids.{same_from_bytes, bytes_eq-sym}
use Rattle.vote_log.proofs.Below.{count_same}
use Rattle.vote_log.proofs.Pushed.{or_later, or_none, start_push, start_with, place_other, decision_at, outcome_push, other_decides, other_commit}
use Rattle.vote_log.proofs.Counted.{stands_other, started_push}

-- the log starts the deal
abbrev pub has_start : Id → List Entry → Bool
has_start deal log = list_any (is_start deal) log

pub has_start_is : (deal : Id) (place : ℕ) (log : List Entry) → is_some (first_start_from deal place log) ≡ has_start deal log
has_start_is deal place [] = refl
has_start_is deal place (x ∷ log) =
    let ih = has_start_is deal (place + 1) log in
    elim (is_start deal x) as (λ b. is_some (cond b (Some (record { at = place; parties = x.num; since = log })) (first_start_from deal (place + 1) log)) ≡ (b || has_start deal log)) [ true ↦ refl | false ↦ ih ]

abbrev is_id : Id → Id → Bool
is_id a b = bytes_eq a.0 b.0

abbrev differs : Id → Id → Bool
differs a b = not (is_id a b)

any_filter : (deal : Id) (f : Id → Bool) (xs : List Id) → list_any (is_id deal) xs ≡ false → list_any (is_id deal) (filter f xs) ≡ false
any_filter deal f [] e = refl
any_filter deal f (x ∷ xs) e =
    let parts = or_parts (is_id deal x) (list_any (is_id deal) xs) e in
    let ih = any_filter deal f xs parts.1 in
    elim (f x) as (λ b. list_any (is_id deal) (cond b (x ∷ filter f xs) (filter f xs)) ≡ false) [ true ↦ or_from (is_id deal x) (list_any (is_id deal) (filter f xs)) parts.0 ih | false ↦ ih ]

none_left : (deal x : Id) (xs : List Id) → is_id deal x ≡ true → list_any (is_id deal) (filter (differs x) xs) ≡ false
none_left deal x [] e = refl
none_left deal x (y ∷ ys) e = go (is_id x y) refl (none_left deal x ys e)
  where
    go : (b : Bool) → is_id x y ≡ b → list_any (is_id deal) (filter (differs x) ys) ≡ false → list_any (is_id deal) (cond (not b) (y ∷ filter (differs x) ys) (filter (differs x) ys)) ≡ false
    go true is ih = ih
    go false is ih = or_from (is_id deal y) (list_any (is_id deal) (filter (differs x) ys)) (ap (λ a. is_id a y) (same_from_bytes deal x e) ∙ is) ih

-- the deal stands in the list, and once
abbrev pub Once : Id → List Id → Type 0
Once deal [] = ⊥
Once deal (x ∷ xs) = MatchBool (is_id deal x) (list_any (is_id deal) xs ≡ false) (Once deal xs)

once_filter : (deal : Id) (f : Id → Bool) (xs : List Id) → ((y : Id) → is_id deal y ≡ true → f y ≡ true) → Once deal xs → Once deal (filter f xs)
once_filter deal f [] keeps h = h
once_filter deal f (x ∷ xs) keeps h = go (is_id deal x) (f x) refl (keeps x) h (λ k. once_filter deal f xs keeps k)
  where
    go : (b c : Bool) → is_id deal x ≡ b → (is_id deal x ≡ true → c ≡ true) → MatchBool b (list_any (is_id deal) xs ≡ false) (Once deal xs) → (Once deal xs → Once deal (filter f xs)) → Once deal (cond c (x ∷ filter f xs) (filter f xs))
    go true true is k h ih = subst (λ b. MatchBool b (list_any (is_id deal) (filter f xs) ≡ false) (Once deal (filter f xs))) (sym is) (any_filter deal f xs h)
    go true false is k h ih = absurd (true≢false (sym (k is)))
    go false true is k h ih = subst (λ b. MatchBool b (list_any (is_id deal) (filter f xs) ≡ false) (Once deal (filter f xs))) (sym is) (ih h)
    go false false is k h ih = ih h

apart : (deal x y : Id) → is_id deal x ≡ false → is_id deal y ≡ true → differs x y ≡ true
apart deal x y no_x is_y =
    let same : deal ≡ y = same_from_bytes deal y is_y in
    let other : is_id x deal ≡ false = bytes_eq-sym deal x false no_x in
    let end : is_id x y ≡ false = ap (is_id x) (sym same) ∙ other in
    ap not end

-- each started deal is listed once, and no other
pub once_started : (deal : Id) (log : List Entry) → has_start deal log ≡ true → Once deal (started_deals log)
once_started deal [] e = absurd (true≢false (sym e))
once_started deal (x ∷ log) e = go (starts x.kind) (is_of deal x) refl e (λ h. once_started deal log h)
  where
    go : (s b : Bool) → is_id deal x.deal ≡ b → ((s && b) || has_start deal log) ≡ true → (has_start deal log ≡ true → Once deal (started_deals log))
        → Once deal (cond s (x.deal ∷ filter (differs x.deal) (started_deals log)) (started_deals log))
    go false b is h ih = ih h
    go true true is h ih = subst (λ c. MatchBool c (list_any (is_id deal) (filter (differs x.deal) (started_deals log)) ≡ false) (Once deal (filter (differs x.deal) (started_deals log)))) (sym is) (none_left deal x.deal (started_deals log) is)
    go true false is h ih = subst (λ c. MatchBool c (list_any (is_id deal) (filter (differs x.deal) (started_deals log)) ≡ false) (Once deal (filter (differs x.deal) (started_deals log)))) (sym is) (once_filter deal (differs x.deal) (started_deals log) (λ y is_y. apart deal x.deal y is is_y) (ih h))

pub none_started : (deal : Id) (log : List Entry) → has_start deal log ≡ false → list_any (is_id deal) (started_deals log) ≡ false
none_started deal [] e = refl
none_started deal (x ∷ log) e = go (starts x.kind) (is_of deal x) refl e (λ h. none_started deal log h)
  where
    go : (s b : Bool) → is_id deal x.deal ≡ b → ((s && b) || has_start deal log) ≡ false → (has_start deal log ≡ false → list_any (is_id deal) (started_deals log) ≡ false)
        → list_any (is_id deal) (cond s (x.deal ∷ filter (differs x.deal) (started_deals log)) (started_deals log)) ≡ false
    go false b is h ih = ih h
    go true true is h ih = absurd (true≢false h)
    go true false is h ih = or_from (is_id deal x.deal) (list_any (is_id deal) (filter (differs x.deal) (started_deals log))) is (any_filter deal (differs x.deal) (started_deals log) (ih h))

-- sums whose terms differ at one deal alone
module _ (f g : Id → ℕ) (deal : Id) (agree : (x : Id) → is_id deal x ≡ false → f x ≡ g x) where
  sum_none : (xs : List Id) → list_any (is_id deal) xs ≡ false → sum_by f xs ≡ sum_by g xs
  sum_none [] e = refl
  sum_none (x ∷ xs) e =
      let parts = or_parts (is_id deal x) (list_any (is_id deal) xs) e in
      let here : f x ≡ g x = agree x parts.0 in
      let ih : sum_by f xs ≡ sum_by g xs = sum_none xs parts.1 in
      sum_by-cons f x xs ∙ (ap (λ n. n + sum_by f xs) here ∙ (ap (λ n. g x + n) ih ∙ sym (sum_by-cons g x xs)))

  sum_once : (xs : List Id) → Once deal xs → sum_by f xs + g deal ≡ sum_by g xs + f deal
  sum_once [] h = absurd h
  sum_once (x ∷ xs) h = go (is_id deal x) refl h (λ k. sum_once xs k)
    where
      go : (b : Bool) → is_id deal x ≡ b → MatchBool b (list_any (is_id deal) xs ≡ false) (Once deal xs) → (Once deal xs → sum_by f xs + g deal ≡ sum_by g xs + f deal) → sum_by f (x ∷ xs) + g deal ≡ sum_by g (x ∷ xs) + f deal
      go true is h ih =
          let same : deal ≡ x = same_from_bytes deal x is in
          let f' : f deal ≡ f x = ap f same in
          let g' : g deal ≡ g x = ap g same in
          let rest : sum_by f xs ≡ sum_by g xs = sum_none xs h in
          let a = sum_by-cons f x xs in
          let b = sum_by-cons g x xs in
          omega arith
      go false is h ih =
          let here : f x ≡ g x = agree x is in
          let rest = ih h in
          let a = sum_by-cons f x xs in
          let b = sum_by-cons g x xs in
          omega arith

term_le : (g : Id → ℕ) (deal : Id) (xs : List Id) → Once deal xs → g deal ≤ sum_by g xs
term_le g deal [] h = absurd h
term_le g deal (x ∷ xs) h = go (is_id deal x) refl h (λ k. term_le g deal xs k)
  where
    go : (b : Bool) → is_id deal x ≡ b → MatchBool b (list_any (is_id deal) xs ≡ false) (Once deal xs) → (Once deal xs → g deal ≤ sum_by g xs) → g deal ≤ sum_by g (x ∷ xs)
    go true is h ih = let same : g deal ≡ g x = ap g (same_from_bytes deal x is) in let a = sum_by-cons g x xs in omega arith
    go false is h ih = let rest = ih h in let a = sum_by-cons g x xs in omega arith

-- a start of a deal that is not started makes it the last of the list
abbrev added : Bool → Id → List Id
added b deal = cond b (deal ∷ []) []

deals_push : (log : List Entry) (entry : Entry) → started_deals (log ++ entry ∷ []) ≡ started_deals log ++ added (starts entry.kind && not (has_start entry.deal log)) entry.deal
deals_push [] entry = elim (starts entry.kind) as (λ s. cond s (entry.deal ∷ []) [] ≡ added (s && true) entry.deal) [ true ↦ refl | false ↦ refl ]
deals_push (x ∷ log) entry = go (starts x.kind) (deals_push log entry)
  where
    dropped : (s h b : Bool) → is_id entry.deal x.deal ≡ b → filter (differs x.deal) (added (s && not h) entry.deal) ≡ added (s && not (b || h)) entry.deal
    dropped false h b is = refl
    dropped true true true is = refl
    dropped true true false is = refl
    dropped true false true is = ap (λ c. cond (not c) (entry.deal ∷ []) []) (bytes_eq-sym entry.deal x.deal true is)
    dropped true false false is = ap (λ c. cond (not c) (entry.deal ∷ []) []) (bytes_eq-sym entry.deal x.deal false is)

    go : (s : Bool) → started_deals (log ++ entry ∷ []) ≡ started_deals log ++ added (starts entry.kind && not (has_start entry.deal log)) entry.deal
        → cond s (x.deal ∷ filter (differs x.deal) (started_deals (log ++ entry ∷ []))) (started_deals (log ++ entry ∷ []))
        ≡ cond s (x.deal ∷ filter (differs x.deal) (started_deals log)) (started_deals log) ++ added (starts entry.kind && not ((s && is_of entry.deal x) || has_start entry.deal log)) entry.deal
    go false ih = ih
    go true ih =
        ap (λ ds. x.deal ∷ filter (differs x.deal) ds) ih
        ∙ (ap (λ ds. x.deal ∷ ds) (filter-append (differs x.deal) (started_deals log) (added (starts entry.kind && not (has_start entry.deal log)) entry.deal))
        ∙ ap (λ ds. x.deal ∷ (filter (differs x.deal) (started_deals log) ++ ds)) (dropped (starts entry.kind) (has_start entry.deal log) (is_of entry.deal x) refl))

uncommitted_other : (log : List Entry) (deal : Id) (entry : Entry) (o : Option Started) → is_of deal entry ≡ false → first_start log deal ≡ o → uncommitted deal (first_start (log ++ entry ∷ []) deal) ≡ uncommitted deal o
uncommitted_other log deal entry None other e = ap (uncommitted deal) (stands_other log deal None entry other e)
uncommitted_other log deal entry (Some s) other e =
    ap (uncommitted deal) (started_push log deal s entry e)
    ∙ count_same (λ k. not (has_committed deal (followed s entry) k)) (λ k. not (has_committed deal s k)) s.parties (λ k less. ap (λ o. not (is_some o)) (place_other deal s k entry (other_commit deal k entry other)))

pub outcome_other : (log : List Entry) (deal : Id) (entry : Entry) → is_of deal entry ≡ false → outcome_of (log ++ entry ∷ []) deal ≡ outcome_of log deal
outcome_other log deal entry other =
    outcome_push log deal entry ∙ (ap (λ o. or_later (outcome_of log deal) (decision_at (length log) o)) (other_decides deal (first_start log deal) entry other) ∙ or_none (outcome_of log deal))

-- an entry of another deal leaves what is owed to this one
pub owed_other : (log : List Entry) (deal : Id) (entry : Entry) → is_of deal entry ≡ false → owed_by (log ++ entry ∷ []) deal ≡ owed_by log deal
owed_other log deal entry other =
    ap (λ o. cond (is_some o) 0 (uncommitted deal (first_start (log ++ entry ∷ []) deal))) (outcome_other log deal entry other)
    ∙ ap (λ n. cond (is_some (outcome_of log deal)) 0 n) (uncommitted_other log deal entry (first_start log deal) other refl)

nothing : (o : Option Decision) → ◌≡◌ {A = ℕ} (cond (is_some o) 0 0) 0
nothing None = refl
nothing (Some d) = refl

pub owed_none : (log : List Entry) (deal : Id) → first_start log deal ≡ None → owed_by log deal ≡ 0
owed_none log deal e = ap (λ s. cond (is_some (outcome_of log deal)) 0 (uncommitted deal s)) e ∙ nothing (outcome_of log deal)

none_from : {X : Type 0} (o : Option X) → is_some o ≡ false → o ≡ None
none_from None e = refl
none_from (Some x) e = absurd (true≢false e)

not_started : (log : List Entry) (deal : Id) → has_start deal log ≡ false → first_start log deal ≡ None
not_started log deal e = none_from (first_start log deal) (has_start_is deal 0 log ∙ e)

-- what is owed to one deal is part of what is owed to all
pub owed_by-le : (log : List Entry) (deal : Id) → owed_by log deal ≤ owed_of log
owed_by-le log deal =
    ⊎_elim
    (λ (yes : has_start deal log ≡ true). term_le (owed_by log) deal (started_deals log) (once_started deal log yes))
    (λ (never : has_start deal log ≡ false). let zero' = owed_none log deal (not_started log deal never) in omega arith)
    (cases_Bool (has_start deal log))

module _ (log : List Entry) (entry : Entry) where
  agree : (x : Id) → is_id entry.deal x ≡ false → owed_by (log ++ entry ∷ []) x ≡ owed_by log x
  agree x e = owed_other log x entry (bytes_eq-sym entry.deal x false e)

  pub owed_push : owed_of (log ++ entry ∷ []) + owed_by log entry.deal ≡ owed_of log + owed_by (log ++ entry ∷ []) entry.deal
  owed_push = go (starts entry.kind) (has_start entry.deal log) refl refl (deals_push log entry)
    where
      go : (s h : Bool) → starts entry.kind ≡ s → has_start entry.deal log ≡ h → started_deals (log ++ entry ∷ []) ≡ started_deals log ++ added (s && not h) entry.deal
          → owed_of (log ++ entry ∷ []) + owed_by log entry.deal ≡ owed_of log + owed_by (log ++ entry ∷ []) entry.deal
      go s true kind known deals =
          let none : (s && false) ≡ false = and_right s false refl in
          let same : started_deals (log ++ entry ∷ []) ≡ started_deals log = deals ∙ (ap (λ b. started_deals log ++ added b entry.deal) none ∙ append-nil (started_deals log)) in
          let sums = sum_once (owed_by (log ++ entry ∷ [])) (owed_by log) entry.deal agree (started_deals log) (once_started entry.deal log known) in
          ap (λ ds. sum_by (owed_by (log ++ entry ∷ [])) ds + owed_by log entry.deal) same ∙ sums
      go true false kind never deals =
          let before = owed_none log entry.deal (not_started log entry.deal never) in
          let sums = sum_none (owed_by (log ++ entry ∷ [])) (owed_by log) entry.deal agree (started_deals log) (none_started entry.deal log never) in
          let pushed = sum_by_push (owed_by (log ++ entry ∷ [])) (started_deals log) entry.deal in
          ap (λ ds. sum_by (owed_by (log ++ entry ∷ [])) ds + owed_by log entry.deal) deals ∙ omega arith
      go false false kind never deals =
          let none = not_started log entry.deal never in
          let before = owed_none log entry.deal none in
          let later : first_start (log ++ entry ∷ []) entry.deal ≡ None = start_push log entry.deal entry ∙ (ap (λ o. start_with entry.deal (length log) o entry) none ∙ ap (λ b. cond (b && is_of entry.deal entry) (Some (record { at = length log; parties = entry.num; since = [] })) None) kind) in
          let after' = owed_none (log ++ entry ∷ []) entry.deal later in
          let sums = sum_none (owed_by (log ++ entry ∷ [])) (owed_by log) entry.deal agree (started_deals log) (none_started entry.deal log never) in
          ap (λ ds. sum_by (owed_by (log ++ entry ∷ [])) ds + owed_by log entry.deal) (deals ∙ append-nil (started_deals log)) ∙ omega arith
