-- The ledger of a name among all ledgers, before and after it answers.
use Rattle.std.proofs.Common.{◌≡◌, ℕ, zero, suc, ◌<◌, Bool, true, false, cond, Some, None, List, [], ◌∷◌, length, get_or, refl, sym, ap, subst, ◌∙◌, inl, inr, ◌⊎◌, arith}
use Rattle.std.specs.Prelude.{find, Contains}
use Rattle.std.specs.Str.{bytes_eq}
use Rattle.std.proofs.lemmas.Slice.Eq.{bytes_eq-Decides}
use Rattle.plain_core.specs.Ledgers.{LedgerTold, Answer, first_answers, behind, at_ledger}
use Rattle.plain_core.specs.declared.reply.Reply.{Reply}
use Rattle.plain_core.proofs.Places.{is_named}

-- ---- elements of a list

pub contains_none : {X : Type 0} (x : X) → Contains [] x → ⊥
contains_none x c = absurd (omega (arith, c.1))

pub contains_head : {X : Type 0} (x : X) (xs : List X) → Contains (x ∷ xs) x
contains_head x xs = (zero, omega arith, refl)

pub contains_tail : {X : Type 0} (y : X) (xs : List X) (x : X) → Contains xs x → Contains (y ∷ xs) x
contains_tail y xs x c = (suc c.0, omega (arith, c.1), c.2)

pub contains_cons : {X : Type 0} (y : X) (xs : List X) (x : X) → Contains (y ∷ xs) x → (y ≡ x) ⊎ Contains xs x
contains_cons {X} y xs x c = at c.0 c.1 c.2
  where
    at : (k : ℕ) → k < length (y ∷ xs) → get_or (y ∷ xs) k x ≡ x → (y ≡ x) ⊎ Contains xs x
    at zero less here = inl here
    at (suc k) less here = inr (k, omega (arith, less), here)

-- ---- ledgers

-- the ledger was there before, or it is what the ledger of the name became
abbrev pub Came : List ℕ → (LedgerTold → Answer) → List LedgerTold → LedgerTold → Type 0
Came name f ls ledger = Contains ls ledger ⊎ ((old : LedgerTold) × (find (is_named name) ls ≡ Some old) × Contains ls old × (ledger ≡ (f old).ledger))

pub came_from : (name : List ℕ) (f : LedgerTold → Answer) (unknown : Reply) (ls : List LedgerTold) (ledger : LedgerTold) → Contains (at_ledger name f unknown ls).ledgers ledger → Came name f ls ledger
came_from name f unknown [] ledger c = absurd (contains_none ledger c)
came_from name f unknown (l ∷ ls) ledger c = by (is_named name l) refl c (came_from name f unknown ls ledger)
  where
    by : (b : Bool) → is_named name l ≡ b → Contains (cond b (first_answers l ls (f l)) (behind l (at_ledger name f unknown ls))).ledgers ledger → (Contains (at_ledger name f unknown ls).ledgers ledger → Came name f ls ledger) → Came name f (l ∷ ls) ledger
    by true e there rest =
        elim (contains_cons (f l).ledger ls ledger there) [
          | inl is ↦ inr (l, ap (λ b. cond b (Some l) (find (is_named name) ls)) e, contains_head l ls, sym is)
          | inr more ↦ inl (contains_tail l ls ledger more)
        ]
    by false e there rest =
        elim (contains_cons l (at_ledger name f unknown ls).ledgers ledger there) [
          | inl is ↦ inl (subst (Contains (l ∷ ls)) is (contains_head l ls))
          | inr more ↦
              elim (rest more) [
                | inl before ↦ inl (contains_tail l ls ledger before)
                | inr found ↦ inr (found.0, ap (λ b. cond b (Some l) (find (is_named name) ls)) e ∙ found.1, contains_tail l ls found.0 found.2, found.3)
              ]
        ]

found_is : (l old : LedgerTold) → Some l ≡ Some old → l ≡ old
found_is l old e = cc

not_found : (l : LedgerTold) → Some l ≡ None → ⊥
not_found l e = cc

pub found_replies : (name : List ℕ) (f : LedgerTold → Answer) (unknown : Reply) (ls : List LedgerTold) (old : LedgerTold) → find (is_named name) ls ≡ Some old → (at_ledger name f unknown ls).reply ≡ (f old).reply
found_replies name f unknown [] old found = absurd cc
found_replies name f unknown (l ∷ ls) old found = by (is_named name l) found (found_replies name f unknown ls old)
  where
    by : (b : Bool) → cond b (Some l) (find (is_named name) ls) ≡ Some old → (find (is_named name) ls ≡ Some old → (at_ledger name f unknown ls).reply ≡ (f old).reply) → (cond b (first_answers l ls (f l)) (behind l (at_ledger name f unknown ls))).reply ≡ (f old).reply
    by true found rest = ap (λ (l : LedgerTold). (f l).reply) (found_is l old found)
    by false found rest = rest found

pub found_after : (name : List ℕ) (f : LedgerTold → Answer) (unknown : Reply) (ls : List LedgerTold) (old : LedgerTold) → find (is_named name) ls ≡ Some old → (f old).ledger.name ≡ old.name → find (is_named name) (at_ledger name f unknown ls).ledgers ≡ Some (f old).ledger
found_after name f unknown [] old found kept = absurd cc
found_after name f unknown (l ∷ ls) old found kept = by (is_named name l) refl found (found_after name f unknown ls old)
  where
    by : (b : Bool) → is_named name l ≡ b → cond b (Some l) (find (is_named name) ls) ≡ Some old → (find (is_named name) ls ≡ Some old → (f old).ledger.name ≡ old.name → find (is_named name) (at_ledger name f unknown ls).ledgers ≡ Some (f old).ledger) → find (is_named name) (cond b (first_answers l ls (f l)) (behind l (at_ledger name f unknown ls))).ledgers ≡ Some (f old).ledger
    by true e found rest =
        let is : l ≡ old = found_is l old found in
        let named : is_named name (f old).ledger ≡ true = ap (bytes_eq name) kept ∙ (ap (is_named name) (sym is) ∙ e) in
        ap (λ (k : LedgerTold). find (is_named name) ((f k).ledger ∷ ls)) is ∙ ap (λ b. cond b (Some (f old).ledger) (find (is_named name) ls)) named
    by false e found rest = ap (λ b. cond b (Some l) (find (is_named name) (at_ledger name f unknown ls).ledgers)) e ∙ rest found kept

pub none_replies : (name : List ℕ) (f : LedgerTold → Answer) (unknown : Reply) (ls : List LedgerTold) → find (is_named name) ls ≡ None → (at_ledger name f unknown ls).reply ≡ unknown
none_replies name f unknown [] none = refl
none_replies name f unknown (l ∷ ls) none = by (is_named name l) none (none_replies name f unknown ls)
  where
    by : (b : Bool) → cond b (Some l) (find (is_named name) ls) ≡ None → (find (is_named name) ls ≡ None → (at_ledger name f unknown ls).reply ≡ unknown) → (cond b (first_answers l ls (f l)) (behind l (at_ledger name f unknown ls))).reply ≡ unknown
    by true none rest = absurd (not_found l none)
    by false none rest = rest none

pub found_there : (name : List ℕ) (ls : List LedgerTold) (old : LedgerTold) → find (is_named name) ls ≡ Some old → Contains ls old
found_there name [] old found = absurd cc
found_there name (l ∷ ls) old found = by (is_named name l) found (found_there name ls old)
  where
    by : (b : Bool) → cond b (Some l) (find (is_named name) ls) ≡ Some old → (find (is_named name) ls ≡ Some old → Contains ls old) → Contains (l ∷ ls) old
    by true found rest = subst (Contains (l ∷ ls)) (found_is l old found) (contains_head l ls)
    by false found rest = contains_tail l ls old (rest found)

pub named_so : (name : List ℕ) (ls : List LedgerTold) (old : LedgerTold) → find (is_named name) ls ≡ Some old → old.name ≡ name
named_so name [] old found = absurd cc
named_so name (l ∷ ls) old found = by (is_named name l) refl found (named_so name ls old)
  where
    by : (b : Bool) → is_named name l ≡ b → cond b (Some l) (find (is_named name) ls) ≡ Some old → (find (is_named name) ls ≡ Some old → old.name ≡ name) → old.name ≡ name
    by true e found rest = sym (ap (λ (k : LedgerTold). k.name) (found_is l old found)) ∙ sym ((bytes_eq-Decides name l.name).0 e)
    by false e found rest = rest found
