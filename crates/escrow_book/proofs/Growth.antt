-- What one more change does to the amounts.
use Rattle.std.proofs.Common.{◌≡◌, ℕ, ◌+◌, Bool, true, false, ◌&&◌, cond, List, [], ◌∷◌, Some, None, is_some, refl, ap, sym, ◌∙◌, append-nil, append_assoc, arith}
use Rattle.std.specs.List.{sum_by}
use Rattle.std.specs.Str.{bytes_eq}
use Rattle.std.proofs.lemmas.List.Sums.{sum_by_push}
use Rattle.dh_base.specs.declared.id.Id.{Id}
use Rattle.dh_base.specs.declared.outcome.Outcome.{Outcome}
use Rattle.dh_base.specs.declared.outcome.Outcome.TheVariants.{Commit, Abort}
use Rattle.escrow_book.specs.declared.change.Change.{Change}
use Rattle.escrow_book.specs.declared.change.Change.TheVariants.{Registered, Escrowed, Transferred, Paid, Settled}
use Rattle.dh_base.specs.Ids.{same_id}
use Rattle.escrow_book.specs.History.{History, with_change, with_changes, settlement, settlement_of, escrowed, received, given, if_abort_of, if_commit_of, deal_came, deal_went, payout_of, paid_to, paid_out, paid_from, put_up, free_came, free_went}
use Rattle.escrow_book.specs.Reached.{IsAccepted, AreAccepted}
use Rattle.escrow_book.proofs.Sums.{sum_same, all_weaker}
use Rattle.dh_base.proofs.SameIds.{id_from_same, same_id-self}
use Rattle.escrow_book.specs.Base.{carried_outcome}
use Rattle.escrow_book.specs.Kept.{ended_here}
use Rattle.escrow_book.proofs.Lookups.{settlement_stays, answered_where, some_value, some_since}
use Rattle.escrow_book.proofs.Accepting.{escrow_accepted, transfer_accepted}

pub deal_came_push : (h : History) (c : Change) (d p : Id) (x : List ℕ) → deal_came (with_change h c) d p x ≡ deal_came h d p x + (escrowed d p x c + received d p x c)
deal_came_push h c d p x = omega (arith, sum_by_push (escrowed d p x) h.changes c, sum_by_push (received d p x) h.changes c)

pub deal_went_push : (h : History) (c : Change) (d p : Id) (x : List ℕ) → deal_went (with_change h c) d p x ≡ deal_went h d p x + given d p x c
deal_went_push h c d p x = sum_by_push (given d p x) h.changes c

-- a change moves nothing in the deal
pub record IsStill (d : Id) (c : Change) : Type 0 where
  pub escrows : (p : Id) (x : List ℕ) → escrowed d p x c ≡ 0
  pub gains : (p : Id) (x : List ℕ) → received d p x c ≡ 0
  pub gifts : (p : Id) (x : List ℕ) → given d p x c ≡ 0

elsewhere : (d e : Id) (n : ℕ) (rest : Bool) → same_id d e ≡ false → cond (same_id d e && rest) n 0 ≡ 0
elsewhere d e n rest apart = ap (λ b. cond (b && rest) n 0) apart

pub apart_deals : (h : History) (d e : Id) (o : Outcome) → settlement_of h d ≡ Some o → settlement_of h e ≡ None → same_id d e ≡ false
apart_deals h d e o ended running = at (same_id d e) refl
  where
    at : (b : Bool) → same_id d e ≡ b → b ≡ false
    at true same = let clash : Some o ≡ None = sym ended ∙ (ap (settlement_of h) (id_from_same d e same) ∙ running) in absurd cc
    at false same = refl

-- no accepted change moves anything in a settled deal
pub settled_is_still : (h : History) (c : Change) (d : Id) (o : Outcome) → IsAccepted h c → settlement_of h d ≡ Some o → IsStill d c
settled_is_still h (Registered e parties) d o a ended = record { escrows = λ p x. refl; gains = λ p x. refl; gifts = λ p x. refl }
settled_is_still h (Escrowed e q y n) d o a ended =
    let apart = apart_deals h d e o ended (escrow_accepted h e q y n a).«open» in
    record { escrows = λ p x. elsewhere d e n (same_id p q && bytes_eq x y) apart; gains = λ p x. refl; gifts = λ p x. refl }
settled_is_still h (Transferred e from to y n) d o a ended =
    let apart = apart_deals h d e o ended (transfer_accepted h e from _ to y n a.0).«open» in
    record { escrows = λ p x. refl; gains = λ p x. elsewhere d e n (same_id p to && bytes_eq x y) apart; gifts = λ p x. elsewhere d e n (same_id p from && bytes_eq x y) apart }
settled_is_still h (Paid from to y n) d o a ended = record { escrows = λ p x. refl; gains = λ p x. refl; gifts = λ p x. refl }
settled_is_still h (Settled e outcome) d o a ended = record { escrows = λ p x. refl; gains = λ p x. refl; gifts = λ p x. refl }

pub if_abort_still : (h : History) (c : Change) (d p : Id) (x : List ℕ) → IsStill d c → if_abort_of (with_change h c) d p x ≡ if_abort_of h d p x
if_abort_still h c d p x still = omega (arith, sum_by_push (escrowed d p x) h.changes c, still.escrows p x)

pub if_commit_still : (h : History) (c : Change) (d p : Id) (x : List ℕ) → IsStill d c → if_commit_of (with_change h c) d p x ≡ if_commit_of h d p x
if_commit_still h c d p x still = omega (arith, deal_came_push h c d p x, deal_went_push h c d p x, still.escrows p x, still.gains p x, still.gifts p x)

pub payout_still : (h : History) (c : Change) (d : Id) (o : Outcome) (p : Id) (x : List ℕ) → IsStill d c → payout_of (with_change h c) d o p x ≡ payout_of h d o p x
payout_still h c d Commit p x still = if_commit_still h c d p x still
payout_still h c d Abort p x still = if_abort_still h c d p x still

-- the payouts of the deals that are settled stay
pub paid_out_kept : (h : History) (c : Change) (p : Id) (x : List ℕ) → IsAccepted h c → sum_by (paid_out (with_change h c) p x) h.changes ≡ sum_by (paid_out h p x) h.changes
paid_out_kept h c p x a = sum_same (paid_out (with_change h c) p x) (paid_out h p x) h.changes (all_weaker (λ s. (d : Id) → is_some (settlement d s) ≡ true → is_some (ended_here h d) ≡ true) (λ s. paid_out (with_change h c) p x s ≡ paid_out h p x s) h.changes here (answered_where settlement h.changes))
  where
    here : (s : Change) → ((d : Id) → is_some (settlement d s) ≡ true → is_some (ended_here h d) ≡ true) → paid_out (with_change h c) p x s ≡ paid_out h p x s
    here (Registered d parties) answered = refl
    here (Escrowed d q y n) answered = refl
    here (Transferred d from to y n) answered = refl
    here (Paid from to y n) answered = refl
    here (Settled d outcome) answered =
        let ended = some_value (settlement_of h d) (some_since (carried_outcome h.carried d) (ended_here h d) (answered d (ap (λ b. is_some (cond b (Some outcome) None)) (same_id-self d)))) in
        payout_still h c d outcome p x (settled_is_still h c d ended.0 a ended.1)

pub free_came_push : (h : History) (c : Change) (p : Id) (x : List ℕ) → IsAccepted h c → free_came (with_change h c) p x ≡ free_came h p x + (paid_to p x c + paid_out (with_change h c) p x c)
free_came_push h c p x a = omega (arith, sum_by_push (paid_to p x) h.changes c, sum_by_push (paid_out (with_change h c) p x) h.changes c, paid_out_kept h c p x a)

pub free_went_push : (h : History) (c : Change) (p : Id) (x : List ℕ) → free_went (with_change h c) p x ≡ free_went h p x + (paid_from p x c + put_up p x c)
free_went_push h c p x = omega (arith, sum_by_push (paid_from p x) h.changes c, sum_by_push (put_up p x) h.changes c)

-- whatever is accepted later, a settled deal keeps its payouts
pub payout_stays : (h : History) (more : List Change) (d : Id) (o : Outcome) (p : Id) (x : List ℕ) → AreAccepted h more → settlement_of h d ≡ Some o → payout_of (with_changes h more) d o p x ≡ payout_of h d o p x
payout_stays h [] d o p x all ended = ap (λ (l : List Change). payout_of (record { opening = h.opening; carried = h.carried; changes = l }) d o p x) (append-nil h.changes)
payout_stays h (c ∷ more) d o p x all ended =
    let later : settlement_of (with_change h c) d ≡ Some o = settlement_stays h (c ∷ []) d o ended in
    ap (λ (l : List Change). payout_of (record { opening = h.opening; carried = h.carried; changes = l }) d o p x) (sym (append_assoc h.changes (c ∷ []) more)) ∙ (payout_stays (with_change h c) more d o p x all.1 later ∙ payout_still h c d o p x (settled_is_still h c d o all.0 ended))
