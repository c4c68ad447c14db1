-- The first answer of a list of changes.
use Rattle.std.proofs.Common.{◌≡◌, ℕ, ◌+◌, true, List, [], ◌∷◌, ◌++◌, Option, Some, None, is_some, refl, ap, sym, ◌∙◌, ◌⊎◌, ⊎_elim, arith}
use Rattle.std.specs.List.{sum_by, AllByRecursion}
use Rattle.std.specs.Option.{option_or, option_map_or}
use Rattle.std.proofs.lemmas.List.Sums.{sum_by_push}
use Rattle.escrow_book.specs.declared.change.Change.{Change}
use Rattle.dh_base.specs.declared.id.Id.{Id}
use Rattle.dh_base.specs.declared.outcome.Outcome.{Outcome}
use Rattle.escrow_book.specs.Base.{carried_parties, carried_outcome}
use Rattle.escrow_book.specs.History.{History, with_change, with_changes, first_answer, registration, settlement, parties_of, settlement_of}
use Rattle.escrow_book.specs.Kept.{ended_here}
use Rattle.escrow_book.proofs.Sums.{all_weaker}

pub or_none : {T : Type 0} (o : Option T) → option_or o None ≡ o
or_none None = refl
or_none (Some t) = refl

pub or_assoc : {T : Type 0} (o p q : Option T) → option_or o (option_or p q) ≡ option_or (option_or o p) q
or_assoc None p q = refl
or_assoc (Some t) p q = refl

pub first_answer-append : {T : Type 0} (answer : Change → Option T) (xs ys : List Change) → first_answer answer (xs ++ ys) ≡ option_or (first_answer answer xs) (first_answer answer ys)
first_answer-append answer [] ys = refl
first_answer-append answer (x ∷ xs) ys =
    ap (option_or (answer x)) (first_answer-append answer xs ys) ∙ or_assoc (answer x) (first_answer answer xs) (first_answer answer ys)

pub first_answer_push : {T : Type 0} (answer : Change → Option T) (xs : List Change) (y : Change) → first_answer answer (xs ++ y ∷ []) ≡ option_or (first_answer answer xs) (answer y)
first_answer_push answer xs y = first_answer-append answer xs (y ∷ []) ∙ ap (option_or (first_answer answer xs)) (or_none (answer y))

-- an answer stays, whatever comes later
pub answer_stays : {T : Type 0} (answer : Change → Option T) (xs ys : List Change) (t : T) → first_answer answer xs ≡ Some t → first_answer answer (xs ++ ys) ≡ Some t
answer_stays answer xs ys t e = first_answer-append answer xs ys ∙ ap (λ o. option_or o (first_answer answer ys)) e

-- a change that answers nothing leaves the answer
pub answer_kept : {T : Type 0} (answer : Change → Option T) (xs : List Change) (y : Change) → answer y ≡ None → first_answer answer (xs ++ y ∷ []) ≡ first_answer answer xs
answer_kept answer xs y e = first_answer_push answer xs y ∙ (ap (option_or (first_answer answer xs)) e ∙ or_none (first_answer answer xs))

-- what an answer counts for
abbrev pub worth : {T : Type 0} → (T → ℕ) → Option T → ℕ
worth f o = option_map_or f o 0

-- at most one change answers, so a sum over the answers has one term
abbrev pub AnsweredOnce : {T : Type 0} → (Change → Option T) → List Change → Type 0
AnsweredOnce {T} answer xs = (f : T → ℕ) → sum_by (λ c. worth f (answer c)) xs ≡ worth f (first_answer answer xs)

pub answered_once_push : {T : Type 0} (answer : Change → Option T) (xs : List Change) (y : Change) → (first_answer answer xs ≡ None) ⊎ (answer y ≡ None) → AnsweredOnce answer xs → AnsweredOnce answer (xs ++ y ∷ [])
answered_once_push {T} answer xs y free once f =
    sum_by_push (λ c. worth f (answer c)) xs y ∙ (ap (λ n. n + worth f (answer y)) (once f) ∙ (joined (first_answer answer xs) (answer y) free ∙ ap (worth f) (sym (first_answer_push answer xs y))))
  where
    joined : (o p : Option T) → (o ≡ None) ⊎ (p ≡ None) → worth f o + worth f p ≡ worth f (option_or o p)
    joined None p h = omega arith
    joined (Some t) None h = omega arith
    joined (Some t) (Some u) h = ⊎_elim (λ (e : Some t ≡ None). absurd cc) (λ (e : Some u ≡ None). absurd cc) h

pub some_since : {T : Type 0} (o p : Option T) → is_some p ≡ true → is_some (option_or o p) ≡ true
some_since None p e = e
some_since (Some t) p e = refl

pub some_here : {T : Type 0} (o p : Option T) → is_some o ≡ true → is_some (option_or o p) ≡ true
some_here None p e = absurd cc
some_here (Some t) p e = refl

-- where a change of the list answers, the list answers
pub answered_where : {K T : Type 0} (answer : K → Change → Option T) (xs : List Change) → AllByRecursion (λ c. (k : K) → is_some (answer k c) ≡ true → is_some (first_answer (answer k) xs) ≡ true) xs
answered_where answer [] = tt
answered_where {K} answer (x ∷ xs) = (
  λ k e. some_here (answer k x) (first_answer (answer k) xs) e,
  all_weaker (λ c. (k : K) → is_some (answer k c) ≡ true → is_some (first_answer (answer k) xs) ≡ true) (λ c. (k : K) → is_some (answer k c) ≡ true → is_some (first_answer (answer k) (x ∷ xs)) ≡ true) xs (λ c h k e. some_since (answer k x) (first_answer (answer k) xs) (h k e)) (answered_where answer xs),
)

pub some_value : {T : Type 0} (o : Option T) → is_some o ≡ true → (t : T) × (o ≡ Some t)
some_value None e = absurd cc
some_value (Some t) e = (t, refl)

pub both_none : {T : Type 0} (o p : Option T) → option_or o p ≡ None → (o ≡ None) × (p ≡ None)
both_none None p e = (refl, e)
both_none (Some t) p e = absurd cc

-- the same with what is carried before the changes
pub answer_behind_push : {T : Type 0} (o : Option T) (answer : Change → Option T) (xs : List Change) (y : Change) → option_or o (first_answer answer (xs ++ y ∷ [])) ≡ option_or (option_or o (first_answer answer xs)) (answer y)
answer_behind_push o answer xs y = ap (option_or o) (first_answer_push answer xs y) ∙ or_assoc o (first_answer answer xs) (answer y)

pub answer_behind_kept : {T : Type 0} (o : Option T) (answer : Change → Option T) (xs : List Change) (y : Change) → answer y ≡ None → option_or o (first_answer answer (xs ++ y ∷ [])) ≡ option_or o (first_answer answer xs)
answer_behind_kept o answer xs y e = ap (option_or o) (answer_kept answer xs y e)

pub answer_behind_stays : {T : Type 0} (o : Option T) (answer : Change → Option T) (xs ys : List Change) (t : T) → option_or o (first_answer answer xs) ≡ Some t → option_or o (first_answer answer (xs ++ ys)) ≡ Some t
answer_behind_stays o answer xs ys t e = ap (option_or o) (first_answer-append answer xs ys) ∙ (or_assoc o (first_answer answer xs) (first_answer answer ys) ∙ ap (λ i. option_or i (first_answer answer ys)) e)

pub parties_push : (h : History) (c : Change) (d : Id) → parties_of (with_change h c) d ≡ option_or (parties_of h d) (registration d c)
parties_push h c d = answer_behind_push (carried_parties h.carried d) (registration d) h.changes c

pub settlement_push : (h : History) (c : Change) (d : Id) → settlement_of (with_change h c) d ≡ option_or (settlement_of h d) (settlement d c)
settlement_push h c d = answer_behind_push (carried_outcome h.carried d) (settlement d) h.changes c

pub parties_kept : (h : History) (c : Change) (d : Id) → registration d c ≡ None → parties_of (with_change h c) d ≡ parties_of h d
parties_kept h c d e = answer_behind_kept (carried_parties h.carried d) (registration d) h.changes c e

pub settlement_kept : (h : History) (c : Change) (d : Id) → settlement d c ≡ None → settlement_of (with_change h c) d ≡ settlement_of h d
settlement_kept h c d e = answer_behind_kept (carried_outcome h.carried d) (settlement d) h.changes c e

pub parties_stay : (h : History) (more : List Change) (d : Id) (parties : List Id) → parties_of h d ≡ Some parties → parties_of (with_changes h more) d ≡ Some parties
parties_stay h more d parties e = answer_behind_stays (carried_parties h.carried d) (registration d) h.changes more parties e

pub settlement_stays : (h : History) (more : List Change) (d : Id) (o : Outcome) → settlement_of h d ≡ Some o → settlement_of (with_changes h more) d ≡ Some o
settlement_stays h more d o e = answer_behind_stays (carried_outcome h.carried d) (settlement d) h.changes more o e

-- an open deal is carried open, and no change has settled it
pub carried_open : (h : History) (d : Id) → settlement_of h d ≡ None → carried_outcome h.carried d ≡ None
carried_open h d e = (both_none (carried_outcome h.carried d) (ended_here h d) e).0

pub open_here : (h : History) (d : Id) → settlement_of h d ≡ None → ended_here h d ≡ None
open_here h d e = (both_none (carried_outcome h.carried d) (ended_here h d) e).1

pub new_here : (h : History) (d : Id) → parties_of h d ≡ None → first_answer (registration d) h.changes ≡ None
new_here h d e = (both_none (carried_parties h.carried d) (first_answer (registration d) h.changes) e).1
