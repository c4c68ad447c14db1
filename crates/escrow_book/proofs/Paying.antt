-- What a settlement does to a free amount.
use Rattle.std.proofs.Common.{◌≡◌, ℕ, ◌+◌, ◌≤◌, None, List, refl, arith}
use Rattle.dh_base.specs.declared.id.Id.{Id}
use Rattle.dh_base.specs.declared.outcome.Outcome.{Outcome}
use Rattle.escrow_book.specs.declared.change.Change.TheVariants.{Settled}
use Rattle.escrow_book.specs.History.{History, with_change, payout_of, free_came, free_went, free_of}
use Rattle.escrow_book.specs.Reached.{IsGrown}
use Rattle.escrow_book.specs.Refused.{settle_refusal}
use Rattle.escrow_book.proofs.Steps.{base_of}
use Rattle.escrow_book.proofs.Cut.{nothing_is_cut}
use Rattle.escrow_book.proofs.Growth.{IsStill, payout_still, free_came_push, free_went_push}

settlement_still : (d e : Id) (o : Outcome) → IsStill d (Settled e o)
settlement_still d e o = record { escrows = λ p x. refl; gains = λ p x. refl; gifts = λ p x. refl }

pub pays : (h : History) (d p : Id) (x : List ℕ) (o : Outcome) → IsGrown h → settle_refusal h d ≡ None → free_of (with_change h (Settled d o)) p x ≡ free_of h p x + payout_of h d o p x
pays h d p x o r free =
    let came : free_came (with_change h (Settled d o)) p x ≡ free_came h p x + (0 + payout_of (with_change h (Settled d o)) d o p x) = free_came_push h (Settled d o) p x free in
    let went : free_went (with_change h (Settled d o)) p x ≡ free_went h p x + (0 + 0) = free_went_push h (Settled d o) p x in
    let same : payout_of (with_change h (Settled d o)) d o p x ≡ payout_of h d o p x = payout_still h (Settled d o) d o p x (settlement_still d d o) in
    let within : free_went h p x ≤ free_came h p x = (nothing_is_cut (base_of h) h.changes r).outside p x in
    omega (arith, came, went, same, within)
