-- What stands over later changes: the parties of a deal, and what a party that moves no more has on commit.
use Rattle.std.proofs.Common.{◌≡◌, ℕ, ◌+◌, ◌≤◌, Bool, true, false, ◌&&◌, cond, List, [], ◌∷◌, ◌++◌, Option, Some, None, refl, ap, sym, subst, ◌∙◌, arith}
use Rattle.std.specs.Prelude.{IsTrue}
use Rattle.std.specs.List.{sum_by, count_by}
use Rattle.std.specs.Option.{option_or}
use Rattle.std.specs.Str.{bytes_eq}
use Rattle.std.proofs.lemmas.List.Sums.{sum_by-cons, sum_by-append}
use Rattle.dh_base.specs.declared.id.Id.{Id}
use Rattle.escrow_book.specs.declared.change.Change.{Change}
use Rattle.escrow_book.specs.declared.change.Change.TheVariants.{Registered, Escrowed, Transferred, Paid, Settled}
use Rattle.dh_base.specs.Ids.{same_id}
use Rattle.escrow_book.specs.Base.{Carried, nothing_carried, carried_parties, carried_moves}
use Rattle.escrow_book.specs.History.{History, with_change, with_changes, first_answer, registration, parties_of, escrowed, received, given, is_move, moves_of, if_commit_of}
use Rattle.escrow_book.specs.Reached.{IsReached, AreAccepted, are_parties, begun}

-- ---- the parties of a deal

registered_so : (h : History) (changes : List Change) (d : Id) (parties : List Id) → AreAccepted h changes → first_answer (registration d) changes ≡ Some parties → IsTrue (are_parties parties)
registered_so h [] d parties accepted is = absurd cc
registered_so h (Registered e others ∷ rest) d parties accepted is = at (same_id d e) is (registered_so (with_change h (Registered e others)) rest d parties accepted.1)
  where
    at : (same : Bool) → option_or (cond same (Some others) None) (first_answer (registration d) rest) ≡ Some parties → (first_answer (registration d) rest ≡ Some parties → IsTrue (are_parties parties)) → IsTrue (are_parties parties)
    at true found later = let one : others ≡ parties = cc in subst (λ (ps : List Id). IsTrue (are_parties ps)) one accepted.0.1
    at false found later = later found
registered_so h (Escrowed e p x n ∷ rest) d parties accepted is = registered_so (with_change h (Escrowed e p x n)) rest d parties accepted.1 is
registered_so h (Transferred e p q x n ∷ rest) d parties accepted is = registered_so (with_change h (Transferred e p q x n)) rest d parties accepted.1 is
registered_so h (Paid p q x n ∷ rest) d parties accepted is = registered_so (with_change h (Paid p q x n)) rest d parties accepted.1 is
registered_so h (Settled e o ∷ rest) d parties accepted is = registered_so (with_change h (Settled e o)) rest d parties accepted.1 is

-- a whole book carries no deal, so each was registered
pub good_parties : (h : History) (d : Id) (parties : List Id) → IsReached h → parties_of h d ≡ Some parties → IsTrue (are_parties parties)
good_parties h d parties r is =
    registered_so (begun h.opening h.carried) h.changes d parties r.accepted
    (sym (ap (λ (base : Carried). option_or (carried_parties base d) (first_answer (registration d) h.changes)) r.whole) ∙ is)

-- ---- a party that moves no more

-- a change that is no move of the party gives nothing
no_move : (d p : Id) (x : List ℕ) (c : Change) → is_move d p c ≡ false → given d p x c ≡ 0
no_move d p x (Registered e parties) still = refl
no_move d p x (Escrowed e q y n) still = refl
no_move d p x (Paid from to y n) still = refl
no_move d p x (Settled e o) still = refl
no_move d p x (Transferred e from to y n) still = at (same_id d e) (same_id p from) still
  where
    at : (a b : Bool) → (a && b) ≡ false → cond (a && (b && bytes_eq x y)) n 0 ≡ 0
    at true true is = absurd cc
    at true false is = refl
    at false b is = refl

nothing_given : (d p : Id) (x : List ℕ) (more : List Change) → count_by (is_move d p) more ≡ 0 → sum_by (given d p x) more ≡ 0
nothing_given d p x [] none = refl
nothing_given d p x (c ∷ more) none = at (is_move d p c) refl (nothing_given d p x more)
  where
    at : (b : Bool) → is_move d p c ≡ b → (count_by (is_move d p) more ≡ 0 → sum_by (given d p x) more ≡ 0) → sum_by (given d p x) (c ∷ more) ≡ 0
    at true is later =
        let one : cond {A = ℕ} (is_move d p c) 1 0 ≡ 1 = ap (λ b. cond {A = ℕ} b 1 0) is in
        absurd (omega (arith, one, none, sum_by-cons (λ c. cond {A = ℕ} (is_move d p c) 1 0) c more))
    at false is later =
        let rest : count_by (is_move d p) more ≡ 0 = omega (arith, none, sum_by-cons (λ c. cond {A = ℕ} (is_move d p c) 1 0) c more) in
        omega (arith, sum_by-cons (given d p x) c more, no_move d p x c is, later rest)

pub commit_stands : (h : History) (more : List Change) (d p : Id) (x : List ℕ) → moves_of (with_changes h more) d p ≡ moves_of h d p → if_commit_of h d p x ≤ if_commit_of (with_changes h more) d p x
commit_stands h more d p x still =
    let none : count_by (is_move d p) more ≡ 0 = omega (arith, still, sum_by-append (λ c. cond {A = ℕ} (is_move d p c) 1 0) h.changes more) in
    omega (arith, nothing_given d p x more none, sum_by-append (given d p x) h.changes more, sum_by-append (escrowed d p x) h.changes more, sum_by-append (received d p x) h.changes more)
