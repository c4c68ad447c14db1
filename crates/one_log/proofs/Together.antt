-- Lists of which one begins the other have one list that all begin.
use Rattle.std.proofs.Common.{◌≡◌, List, [], ◌∷◌, refl, sym, subst, inl, inr, ⊎_elim}
use Rattle.std.specs.List.{AllByRecursion}
use Rattle.std.proofs.lemmas.List.{append-nil}
use mathlib.Core.List.{IsPrefix}
use Rattle.vote_log.specs.Entry.{Entry}
use Rattle.one_log.specs.Houses.{House, IsCertified, HasOneLog}
use Rattle.one_log.proofs.Lists.{every_weaker, begins_on}
use Rattle.one_log.proofs.Signed.{IsFair}
use Rattle.one_log.proofs.Walks.{one_log_lists}

pub together : (w : House) → IsFair w → (lists : List (List Entry)) → AllByRecursion (IsCertified w) lists → HasOneLog w lists
together w fair [] a = record { log = []; certified = inl refl; all = tt }
together w fair (x ∷ lists) a =
    let r = together w fair lists a.1 in
    let self : IsPrefix x x = ([], append-nil x) in
    let more = λ (p : IsPrefix r.log x). let o : HasOneLog w (x ∷ lists) = record { log = x; certified = inr a.0; all = (self, every_weaker (λ list. IsPrefix list r.log) (λ list. IsPrefix list x) (λ list q. begins_on list r.log x q p) lists r.all) } in o in
    let keep = λ (p : IsPrefix x r.log). let o : HasOneLog w (x ∷ lists) = record { log = r.log; certified = r.certified; all = (p, r.all) } in o in
    ⊎_elim
    (λ (e : r.log ≡ []). more (subst (λ l. IsPrefix l x) (sym e) (x, refl)))
    (λ (c : IsCertified w r.log). ⊎_elim keep more (one_log_lists w fair x r.log a.0 c))
    r.certified
