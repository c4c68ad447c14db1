-- Who owns something in a deal is a party of it.
use Rattle.std.proofs.Common.{◌≡◌, ℕ, ◌+◌, ◌<◌, ◌&&◌, Bool, true, false, cond, List, [], ◌∷◌, Some, refl, ap, ◌∙◌, arith}
use Rattle.std.specs.List.{sum_by, AllByRecursion}
use Rattle.std.specs.Str.{bytes_eq}
use Rattle.std.proofs.lemmas.List.Sums.{sum_by-cons}
use Rattle.dh_base.specs.declared.id.Id.{Id}
use Rattle.dh_base.specs.Ids.{same_id}
use Rattle.dh_base.proofs.SameIds.{id_from_same}
use Rattle.escrow_book.specs.declared.change.Change.{Change}
use Rattle.escrow_book.specs.declared.change.Change.TheVariants.{Registered, Paid, Escrowed, Transferred, Settled}
use Rattle.escrow_book.specs.Base.{Carried, carried_commit, carried_abort}
use Rattle.escrow_book.specs.History.{History, parties_of, is_in, escrowed, received, if_commit_of, if_abort_of}
use Rattle.escrow_book.specs.Reached.{IsReached}
use Rattle.escrow_book.proofs.Accounts.{IsCovered}
use Rattle.escrow_book.proofs.Known.{FitsDeal, all_fit, covered_by_parties}
use Rattle.escrow_book.proofs.Steps.{base_of}
use Rattle.escrow_book.proofs.Whole.{grown}

-- an amount of a party, where the account is none
not_its : (same mine kind : Bool) (n : ℕ) → (same ≡ true → mine ≡ false) → cond (same && (mine && kind)) n 0 ≡ 0
not_its true true kind n out = absurd (let e = out refl in cc)
not_its true false kind n out = refl
not_its false mine kind n out = refl

module _ (d p : Id) (x : List ℕ) (parties : List Id) (out : is_in p parties ≡ false) where
  stranger : (q : Id) (b : Bool) → is_in q parties ≡ true → same_id p q ≡ b → b ≡ false
  stranger q true among same = absurd (let e : is_in p parties ≡ true = ap (λ (i : Id). is_in i parties) (id_from_same p q same) ∙ among in cc)
  stranger q false among same = refl

  nothing_put : (c : Change) → IsCovered parties d c → escrowed d p x c ≡ 0
  nothing_put (Registered e others) covered = refl
  nothing_put (Escrowed e q y n) covered = not_its (same_id d e) (same_id p q) (bytes_eq x y) n (λ same. stranger q (same_id p q) (covered same) refl)
  nothing_put (Transferred e from to y n) covered = refl
  nothing_put (Paid from to y n) covered = refl
  nothing_put (Settled e outcome) covered = refl

  nothing_got : (c : Change) → IsCovered parties d c → received d p x c ≡ 0
  nothing_got (Registered e others) covered = refl
  nothing_got (Escrowed e q y n) covered = refl
  nothing_got (Transferred e from to y n) covered = not_its (same_id d e) (same_id p to) (bytes_eq x y) n (λ same. stranger to (same_id p to) (covered same).1 refl)
  nothing_got (Paid from to y n) covered = refl
  nothing_got (Settled e outcome) covered = refl

  sums : (h : History) → parties_of h d ≡ Some parties → (changes : List Change) → AllByRecursion (FitsDeal h) changes → (sum_by (escrowed d p x) changes ≡ 0) × (sum_by (received d p x) changes ≡ 0)
  sums h known [] fits = (refl, refl)
  sums h known (c ∷ changes) fits =
      let covered = covered_by_parties h d parties c known fits.0 in
      let rest = sums h known changes fits.1 in (
        omega (arith, sum_by-cons (escrowed d p x) c changes, nothing_put c covered, rest.0),
        omega (arith, sum_by-cons (received d p x) c changes, nothing_got c covered, rest.1),
      )

  nothing_owned : (h : History) → IsReached h → parties_of h d ≡ Some parties → (if_commit_of h d p x ≡ 0) × (if_abort_of h d p x ≡ 0)
  nothing_owned h r known =
      let both = sums h known h.changes (all_fit (base_of h) h.changes (grown h r)) in
      let commit : carried_commit h.carried d p x ≡ 0 = ap (λ (base : Carried). carried_commit base d p x) r.whole in
      let abort : carried_abort h.carried d p x ≡ 0 = ap (λ (base : Carried). carried_abort base d p x) r.whole in
      (omega (arith, both.0, both.1, commit), omega (arith, both.0, abort))

pub owner_is_party : (h : History) (d p : Id) (x : List ℕ) (parties : List Id) → IsReached h → parties_of h d ≡ Some parties → 0 < if_commit_of h d p x + if_abort_of h d p x → is_in p parties ≡ true
owner_is_party h d p x parties r known some = go (is_in p parties) refl
  where
    go : (among : Bool) → is_in p parties ≡ among → among ≡ true
    go true e = refl
    go false out = absurd (let none = nothing_owned d p x parties out h r known in omega (arith, none.0, none.1))
