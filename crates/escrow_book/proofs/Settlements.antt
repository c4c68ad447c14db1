-- Sums over the settlements of a history, and over the changes of their deals.
use Rattle.std.proofs.Common.{◌≡◌, ℕ, ◌+◌, Bool, true, false, ◌&&◌, cond, List, Some, None, refl, sym, ◌∙◌}
use Rattle.std.specs.List.{sum_by}
use Rattle.dh_base.specs.declared.id.Id.{Id}
use Rattle.dh_base.specs.declared.outcome.Outcome.{Outcome}
use Rattle.escrow_book.specs.declared.change.Change.{Change}
use Rattle.escrow_book.specs.declared.change.Change.TheVariants.{Registered, Escrowed, Transferred, Paid, Settled}
use Rattle.dh_base.specs.Ids.{same_id}
use Rattle.escrow_book.specs.Base.{Base}
use Rattle.escrow_book.specs.History.{settlement}
use Rattle.escrow_book.specs.Kept.{ended_here}
use Rattle.escrow_book.specs.Reached.{IsGrown}
use Rattle.escrow_book.proofs.Sums.{sum_same_all, sum_zero, sum_add, sum_swap}
use Rattle.dh_base.proofs.SameIds.{same_id-swap}
use Rattle.escrow_book.proofs.Lookups.{worth}
use Rattle.escrow_book.proofs.Steps.{history}
use Rattle.escrow_book.proofs.Once.{settled_once}

-- what a settlement counts for
abbrev pub at_settlement : (Id → Outcome → ℕ) → Change → ℕ
at_settlement f (Settled d outcome) = f d outcome
at_settlement f _ = 0

pub cond_and : (a b : Bool) (n : ℕ) → cond (a && b) n 0 ≡ cond a (cond b n 0) 0
cond_and true b n = refl
cond_and false b n = refl

answered : (d e : Id) (o : Outcome) (f : Outcome → ℕ) → cond (same_id d e) (f o) 0 ≡ worth f (cond (same_id e d) (Some o) None)
answered d e o f = at (same_id d e) (same_id e d) (same_id-swap d e)
  where
    at : (s t : Bool) → s ≡ t → cond s (f o) 0 ≡ worth f (cond t (Some o) None)
    at true true same = refl
    at false false same = refl
    at true false same = absurd cc
    at false true same = absurd cc

settlement_is : (e : Id) (f : Outcome → ℕ) (w : Id → Outcome → ℕ) → ((d : Id) (o : Outcome) → w d o ≡ cond (same_id d e) (f o) 0) → (s : Change) → at_settlement w s ≡ worth f (settlement e s)
settlement_is e f w each (Registered d parties) = refl
settlement_is e f w each (Escrowed d p z m) = refl
settlement_is e f w each (Transferred d from to z m) = refl
settlement_is e f w each (Paid from to z m) = refl
settlement_is e f w each (Settled d outcome) = each d outcome ∙ answered d e outcome f

-- what counts for the settlements of one deal counts once
pub settlements_of : (rows : Base) (changes : List Change) (e : Id) (f : Outcome → ℕ) (w : Id → Outcome → ℕ) → IsGrown (history rows changes) → ((d : Id) (o : Outcome) → w d o ≡ cond (same_id d e) (f o) 0) → sum_by (at_settlement w) changes ≡ worth f (ended_here (history rows changes) e)
settlements_of rows changes e f w r each =
    sum_same_all (at_settlement w) (λ s. worth f (settlement e s)) changes (settlement_is e f w each) ∙ settled_once rows changes e r f

-- no settlement counts anything
pub settlements_none : (f : Id → Outcome → ℕ) (changes : List Change) → ((d : Id) (o : Outcome) → f d o ≡ 0) → sum_by (at_settlement f) changes ≡ 0
settlements_none f changes none = sum_same_all (at_settlement f) (λ s. 0) changes nothing ∙ sum_zero changes
  where
    nothing : (s : Change) → at_settlement f s ≡ 0
    nothing (Registered d parties) = refl
    nothing (Escrowed d p z m) = refl
    nothing (Transferred d from to z m) = refl
    nothing (Paid from to z m) = refl
    nothing (Settled d outcome) = none d outcome

-- a settlement counts what each item counts in its deal
pub settlements_swap : {X : Type 0} (w : Id → Outcome → X → ℕ) (changes : List Change) (items : List X) → sum_by (at_settlement (λ d o. sum_by (w d o) items)) changes ≡ sum_by (λ i. sum_by (at_settlement (λ d o. w d o i)) changes) items
settlements_swap {X} w changes items =
    sum_same_all (at_settlement (λ d o. sum_by (w d o) items)) (λ s. sum_by (λ i. at_settlement (λ d o. w d o i) s) items) changes each ∙ sum_swap (λ s i. at_settlement (λ d o. w d o i) s) changes items
  where
    each : (s : Change) → at_settlement (λ d o. sum_by (w d o) items) s ≡ sum_by (λ i. at_settlement (λ d o. w d o i) s) items
    each (Registered d parties) = sym (sum_zero items)
    each (Escrowed d p z m) = sym (sum_zero items)
    each (Transferred d from to z m) = sym (sum_zero items)
    each (Paid from to z m) = sym (sum_zero items)
    each (Settled d outcome) = refl

-- a settlement that counts two things counts each of them
pub settlements_add : (f g : Id → Outcome → ℕ) (changes : List Change) → sum_by (at_settlement (λ d o. f d o + g d o)) changes ≡ sum_by (at_settlement f) changes + sum_by (at_settlement g) changes
settlements_add f g changes =
    sum_same_all (at_settlement (λ d o. f d o + g d o)) (λ s. at_settlement f s + at_settlement g s) changes each ∙ sum_add (at_settlement f) (at_settlement g) changes
  where
    each : (s : Change) → at_settlement (λ d o. f d o + g d o) s ≡ at_settlement f s + at_settlement g s
    each (Registered d parties) = refl
    each (Escrowed d p z m) = refl
    each (Transferred d from to z m) = refl
    each (Paid from to z m) = refl
    each (Settled d outcome) = refl
