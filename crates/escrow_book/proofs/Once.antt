-- A deal is registered once and settled once.
use Rattle.std.proofs.Common.{◌≡◌, ◌≤◌, is_some, arith, Bool, true, false, cond, List, Option, Some, None, refl, ap, ◌∙◌, ◌⊎◌, inl, inr}
use Rattle.std.specs.List.{sum_by, count_by}
use Rattle.dh_base.specs.declared.id.Id.{Id}
use Rattle.escrow_book.specs.declared.change.Change.{Change}
use Rattle.escrow_book.specs.declared.change.Change.TheVariants.{Registered, Escrowed, Transferred, Paid, Settled}
use Rattle.dh_base.specs.Ids.{same_id}
use Rattle.escrow_book.specs.Base.{Base}
use Rattle.escrow_book.specs.Kept.{ended_here}
use Rattle.escrow_book.specs.History.{History, first_answer, registration, settlement}
use Rattle.escrow_book.specs.Reached.{IsAccepted, IsGrown}
use Rattle.escrow_book.proofs.Sums.{sum_same_all}
use Rattle.dh_base.proofs.SameIds.{id_from_same}
use Rattle.escrow_book.proofs.Lookups.{worth, AnsweredOnce, answered_once_push, open_here, new_here}
use Rattle.escrow_book.proofs.Accepting.{settle_accepted}
use Rattle.escrow_book.proofs.Steps.{history, by_steps}

-- where the deals differ nothing is answered, and else nothing was answered before
free_or_silent : {T : Type 0} (d e : Id) (t : T) (before : Id → Option T) → before e ≡ None → (before d ≡ None) ⊎ (cond (same_id d e) (Some t) None ≡ None)
free_or_silent {T} d e t before none = at (same_id d e) refl
  where
    at : (b : Bool) → same_id d e ≡ b → (before d ≡ None) ⊎ (cond b (Some t) None ≡ None)
    at true same = inl (ap before (id_from_same d e same) ∙ none)
    at false same = inr refl

settled_free : (h : History) (c : Change) (d : Id) → IsAccepted h c → (ended_here h d ≡ None) ⊎ (settlement d c ≡ None)
settled_free h (Registered e parties) d a = inr refl
settled_free h (Escrowed e p x n) d a = inr refl
settled_free h (Transferred e from to x n) d a = inr refl
settled_free h (Paid from to x n) d a = inr refl
settled_free h (Settled e outcome) d a = free_or_silent d e outcome (ended_here h) (open_here h e (settle_accepted h e a).«open»)

registered_free : (h : History) (c : Change) (d : Id) → IsAccepted h c → (first_answer (registration d) h.changes ≡ None) ⊎ (registration d c ≡ None)
registered_free h (Registered e parties) d a = free_or_silent d e parties (λ i. first_answer (registration i) h.changes) (new_here h e a.0)
registered_free h (Escrowed e p x n) d a = inr refl
registered_free h (Transferred e from to x n) d a = inr refl
registered_free h (Paid from to x n) d a = inr refl
registered_free h (Settled e outcome) d a = inr refl

pub settled_once : (rows : Base) (changes : List Change) (d : Id) → IsGrown (history rows changes) → AnsweredOnce (settlement d) changes
settled_once rows changes d r =
    by_steps rows (AnsweredOnce (settlement d)) (λ front c reached once a. answered_once_push (settlement d) front c (settled_free (history rows front) c d a) once) changes (λ f. refl) r

pub registered_once : (rows : Base) (changes : List Change) (d : Id) → IsGrown (history rows changes) → AnsweredOnce (registration d) changes
registered_once rows changes d r =
    by_steps rows (AnsweredOnce (registration d)) (λ front c reached once a. answered_once_push (registration d) front c (registered_free (history rows front) c d a) once) changes (λ f. refl) r

worth_one : {T : Type 0} (o : Option T) → cond (is_some o) 1 0 ≡ worth (λ (t : T). 1) o
worth_one None = refl
worth_one (Some t) = refl

at_most_one : {T : Type 0} (o : Option T) → worth (λ (t : T). 1) o ≤ 1
at_most_one None = omega arith
at_most_one (Some t) = omega arith

-- at most one change answers
pub one_answers : {T : Type 0} (answer : Change → Option T) (changes : List Change) → AnsweredOnce answer changes → count_by (λ c. is_some (answer c)) changes ≤ 1
one_answers {T} answer changes once =
    let same : count_by (λ c. is_some (answer c)) changes ≡ sum_by (λ c. worth (λ (t : T). 1) (answer c)) changes = sum_same_all (λ c. cond (is_some (answer c)) 1 0) (λ c. worth (λ (t : T). 1) (answer c)) changes (λ c. worth_one (answer c)) in
    let whole : sum_by (λ c. worth (λ (t : T). 1) (answer c)) changes ≡ worth (λ (t : T). 1) (first_answer answer changes) = once (λ (t : T). 1) in
    omega (arith, at_most_one (first_answer answer changes))
