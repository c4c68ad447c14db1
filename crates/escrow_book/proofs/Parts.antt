-- A part that says what the whole says of all that a change touches refuses as the whole, and says the same after it.
use Rattle.std.proofs.Common.{◌≡◌, ℕ, ◌==◌, ◌+◌, ◌<◌, ◌≤◌, false, cond, List, [], ◌∷◌, Option, Some, None, is_some, refl, ap, sym, ◌∙◌, subst, arith}
use Rattle.std.specs.Option.{option_or, option_map}
use Rattle.std.proofs.lemmas.List.Sums.{sum_by_push}
use Rattle.dh_base.specs.declared.id.Id.{Id}
use Rattle.dh_base.specs.declared.outcome.Outcome.{Outcome}
use Rattle.dh_base.specs.declared.outcome.Outcome.TheVariants.{Commit, Abort}
use Rattle.escrow_book.specs.declared.change.Change.{Change}
use Rattle.escrow_book.specs.declared.change.Change.TheVariants.{Registered, Escrowed, Transferred, Paid, Settled}
use Rattle.escrow_book.specs.declared.fault.BookFault.{BookFault}
use Rattle.escrow_book.specs.declared.fault.BookFault.TheVariants.{UnknownDeal, NotAParty, DealSettled, WrongTurn}
use Rattle.escrow_book.specs.History.{History, with_change, registration, settlement, parties_of, settlement_of, is_among, escrowed, received, given, is_move, moves_of, if_abort_of, if_commit_of, deal_came, deal_went, payout_of, paid_to, paid_out, paid_from, put_up, free_came, free_went, free_of}
use Rattle.escrow_book.specs.Refused.{first_of, zero, zero_or_self, short, escrow_refusal, transfer_refusal, pay_refusal, settle_refusal}
use Rattle.escrow_book.specs.Base.{greatest_turn}
use Rattle.escrow_book.specs.Reached.{IsAccepted, IsGrown}
use Rattle.escrow_book.specs.Part.{SaySameDeal, SaySameHold, AgreeOnEscrow, AgreeOnTransfer, AgreeOnPayment, Agree}
use Rattle.escrow_book.proofs.Lookups.{parties_push, settlement_push}
use Rattle.escrow_book.proofs.Growth.{IsStill, deal_came_push, deal_went_push, free_came_push, free_went_push, payout_still}
use Rattle.escrow_book.proofs.Steps.{base_of, grown_push}
use Rattle.escrow_book.proofs.Cut.{nothing_is_cut}

-- ---- refusals

-- the refusals, by what the history says
abbrev escrow_said : Option (List Id) → Option Outcome → ℕ → Id → ℕ → Option BookFault
escrow_said parties ended free p n = first_of (cond (is_some parties) None (Some UnknownDeal) ∷ cond (is_among p parties) None (Some (NotAParty p)) ∷ option_map DealSettled ended ∷ zero n ∷ short free n ∷ [])

pub same_escrow_refusal : (part whole : History) (d p : Id) (x : List ℕ) (n : ℕ) → AgreeOnEscrow part whole d p x → escrow_refusal part d p x n ≡ escrow_refusal whole d p x n
same_escrow_refusal part whole d p x n agree =
    ap (λ (o : Option (List Id)). escrow_said o (settlement_of part d) (free_of part p x) p n) agree.deal.parties
    ∙ (ap (λ (o : Option Outcome). escrow_said (parties_of whole d) o (free_of part p x) p n) agree.deal.settled
    ∙ ap (λ (k : ℕ). escrow_said (parties_of whole d) (settlement_of whole d) k p n) agree.free)

abbrev transfer_said : Option (List Id) → Option Outcome → ℕ → ℕ → Id → ℕ → Id → ℕ → Option BookFault
transfer_said parties ended moves held from turn to n =
    first_of (cond (is_some parties) None (Some UnknownDeal) ∷ cond (is_among from parties) None (Some (NotAParty from)) ∷ cond (is_among to parties) None (Some (NotAParty to)) ∷ option_map DealSettled ended ∷ cond (turn == moves) None (Some (WrongTurn moves)) ∷ zero_or_self n from to ∷ short held n ∷ [])

pub same_transfer_refusal : (part whole : History) (d from : Id) (turn : ℕ) (to : Id) (x : List ℕ) (n : ℕ) → AgreeOnTransfer part whole d from to x → transfer_refusal part d from turn to x n ≡ transfer_refusal whole d from turn to x n
same_transfer_refusal part whole d from turn to x n agree =
    ap (λ (o : Option (List Id)). transfer_said o (settlement_of part d) (moves_of part d from) (if_commit_of part d from x) from turn to n) agree.deal.parties
    ∙ (ap (λ (o : Option Outcome). transfer_said (parties_of whole d) o (moves_of part d from) (if_commit_of part d from x) from turn to n) agree.deal.settled
    ∙ (ap (λ (k : ℕ). transfer_said (parties_of whole d) (settlement_of whole d) k (if_commit_of part d from x) from turn to n) agree.moves
    ∙ ap (λ (k : ℕ). transfer_said (parties_of whole d) (settlement_of whole d) (moves_of whole d from) k from turn to n) agree.sender.if_commit))

pub same_pay_refusal : (part whole : History) (from to : Id) (x : List ℕ) (n : ℕ) → AgreeOnPayment part whole from to x → pay_refusal part from to x n ≡ pay_refusal whole from to x n
same_pay_refusal part whole from to x n agree = ap (λ (k : ℕ). first_of (zero_or_self n from to ∷ short k n ∷ [])) agree.sender

pub same_settle_refusal : (part whole : History) (d : Id) → SaySameDeal part whole d → settle_refusal part d ≡ settle_refusal whole d
same_settle_refusal part whole d agree =
    ap (λ (o : Option (List Id)). first_of (cond (is_some o) None (Some UnknownDeal) ∷ option_map DealSettled (settlement_of part d) ∷ [])) agree.parties
    ∙ ap (λ (o : Option Outcome). first_of (cond (is_some (parties_of whole d)) None (Some UnknownDeal) ∷ option_map DealSettled o ∷ [])) agree.settled

-- what the whole accepts, the part accepts
pub same_accepted : (part whole : History) (c : Change) → Agree part whole c → IsAccepted whole c → IsAccepted part c
same_accepted part whole (Registered d parties) agree a = (agree.parties ∙ a.0, a.1)
same_accepted part whole (Escrowed d p x n) agree a = same_escrow_refusal part whole d p x n agree ∙ a
same_accepted part whole (Transferred d from to x n) agree a = (
  subst (λ (k : ℕ). transfer_refusal part d from k to x n ≡ None) (sym agree.moves) (same_transfer_refusal part whole d from (moves_of whole d from) to x n agree ∙ a.0),
  subst (λ (k : ℕ). k < greatest_turn) (sym agree.moves) a.1,
)
same_accepted part whole (Paid from to x n) agree a = same_pay_refusal part whole from to x n agree ∙ a
same_accepted part whole (Settled d outcome) agree a = same_settle_refusal part whole d agree.deal ∙ a

-- ---- amounts

if_commit_push : (h : History) (c : Change) (d p : Id) (x : List ℕ) → IsGrown h → IsAccepted h c → if_commit_of (with_change h c) d p x + given d p x c ≡ if_commit_of h d p x + (escrowed d p x c + received d p x c)
if_commit_push h c d p x r a =
    let before : deal_went h d p x ≤ deal_came h d p x = (nothing_is_cut (base_of h) h.changes r).in_deals d p x in
    let after : deal_went (with_change h c) d p x ≤ deal_came (with_change h c) d p x = (nothing_is_cut (base_of h) (with_change h c).changes (grown_push h c r a)).in_deals d p x in
    omega (arith, deal_came_push h c d p x, deal_went_push h c d p x)

free_push : (h : History) (c : Change) (p : Id) (x : List ℕ) → IsGrown h → IsAccepted h c → free_of (with_change h c) p x + (paid_from p x c + put_up p x c) ≡ free_of h p x + (paid_to p x c + paid_out (with_change h c) p x c)
free_push h c p x r a =
    let before : free_went h p x ≤ free_came h p x = (nothing_is_cut (base_of h) h.changes r).outside p x in
    let after : free_went (with_change h c) p x ≤ free_came (with_change h c) p x = (nothing_is_cut (base_of h) (with_change h c).changes (grown_push h c r a)).outside p x in
    omega (arith, free_came_push h c p x a, free_went_push h c p x)

module _ (part whole : History) (c : Change) (rp : IsGrown part) (rh : IsGrown whole) (ak : IsAccepted part c) (aw : IsAccepted whole c) where
  deal_after : (d : Id) → SaySameDeal part whole d → SaySameDeal (with_change part c) (with_change whole c) d
  deal_after d same = record {
    parties = parties_push part c d ∙ (ap (λ o. option_or o (registration d c)) same.parties ∙ sym (parties_push whole c d));
    settled = settlement_push part c d ∙ (ap (λ o. option_or o (settlement d c)) same.settled ∙ sym (settlement_push whole c d));
  }

  hold_after : (d p : Id) (x : List ℕ) → SaySameHold part whole d p x → SaySameHold (with_change part c) (with_change whole c) d p x
  hold_after d p x same = record {
    if_commit = omega (arith, if_commit_push part c d p x rp ak, if_commit_push whole c d p x rh aw, same.if_commit);
    if_abort = omega (arith, sum_by_push (escrowed d p x) part.changes c, sum_by_push (escrowed d p x) whole.changes c, same.if_abort);
  }

  moves_after : (d p : Id) → moves_of part d p ≡ moves_of whole d p → moves_of (with_change part c) d p ≡ moves_of (with_change whole c) d p
  moves_after d p same = omega (arith, sum_by_push (λ i. cond (is_move d p i) 1 0) part.changes c, sum_by_push (λ i. cond (is_move d p i) 1 0) whole.changes c, same)

  free_after : (p : Id) (x : List ℕ) → free_of part p x ≡ free_of whole p x → paid_out (with_change part c) p x c ≡ paid_out (with_change whole c) p x c → free_of (with_change part c) p x ≡ free_of (with_change whole c) p x
  free_after p x same paid = omega (arith, free_push part c p x rp ak, free_push whole c p x rh aw, same, paid)

still : (d e : Id) (o : Outcome) → IsStill d (Settled e o)
still d e o = record { escrows = λ p x. refl; gains = λ p x. refl; gifts = λ p x. refl }

same_payout : (part whole : History) (d p : Id) (x : List ℕ) (o : Outcome) → SaySameHold part whole d p x → payout_of part d o p x ≡ payout_of whole d o p x
same_payout part whole d p x Commit same = same.if_commit
same_payout part whole d p x Abort same = same.if_abort

-- after the change the part says what the whole says, of all that the change touches
pub agree_after : (part whole : History) (c : Change) → IsGrown part → IsGrown whole → Agree part whole c → IsAccepted whole c → Agree (with_change part c) (with_change whole c) c
agree_after part whole (Registered d parties) rp rh agree a = deal_after part whole (Registered d parties) rp rh (same_accepted part whole (Registered d parties) agree a) a d agree
agree_after part whole (Escrowed d p x n) rp rh agree a =
    let here = same_accepted part whole (Escrowed d p x n) agree a in
    record {
      deal = deal_after part whole (Escrowed d p x n) rp rh here a d agree.deal;
      free = free_after part whole (Escrowed d p x n) rp rh here a p x agree.free refl;
      hold = hold_after part whole (Escrowed d p x n) rp rh here a d p x agree.hold;
    }
agree_after part whole (Transferred d from to x n) rp rh agree a =
    let here = same_accepted part whole (Transferred d from to x n) agree a in
    record {
      deal = deal_after part whole (Transferred d from to x n) rp rh here a d agree.deal;
      moves = moves_after part whole (Transferred d from to x n) rp rh here a d from agree.moves;
      sender = hold_after part whole (Transferred d from to x n) rp rh here a d from x agree.sender;
      receiver = hold_after part whole (Transferred d from to x n) rp rh here a d to x agree.receiver;
    }
agree_after part whole (Paid from to x n) rp rh agree a =
    let here = same_accepted part whole (Paid from to x n) agree a in
    record {
      sender = free_after part whole (Paid from to x n) rp rh here a from x agree.sender refl;
      receiver = free_after part whole (Paid from to x n) rp rh here a to x agree.receiver refl;
    }
agree_after part whole (Settled d o) rp rh agree a =
    let here = same_accepted part whole (Settled d o) agree a in
    record {
      deal = deal_after part whole (Settled d o) rp rh here a d agree.deal;
      holds = λ p x. hold_after part whole (Settled d o) rp rh here a d p x (agree.holds p x);
      free = λ p x held. free_after part whole (Settled d o) rp rh here a p x
          (agree.free p x (subst (λ (k : ℕ). 0 < k) (same_held p x) held))
          (payout_still part (Settled d o) d o p x (still d d o) ∙ (same_payout part whole d p x o (agree.holds p x) ∙ sym (payout_still whole (Settled d o) d o p x (still d d o))));
    }
  where
    same_held : (p : Id) (x : List ℕ) → if_commit_of (with_change whole (Settled d o)) d p x + if_abort_of (with_change whole (Settled d o)) d p x ≡ if_commit_of whole d p x + if_abort_of whole d p x
    same_held p x = omega (arith, payout_still whole (Settled d o) d Commit p x (still d d o), payout_still whole (Settled d o) d Abort p x (still d d o))

-- ---- what a change doesn't touch

pub free_untouched : (h : History) (c : Change) (p : Id) (x : List ℕ) → IsGrown h → IsAccepted h c → paid_from p x c + put_up p x c ≡ 0 → paid_to p x c + paid_out (with_change h c) p x c ≡ 0 → free_of (with_change h c) p x ≡ free_of h p x
free_untouched h c p x r a out into = omega (arith, free_push h c p x r a)

pub if_commit_untouched : (h : History) (c : Change) (d p : Id) (x : List ℕ) → escrowed d p x c + received d p x c ≡ 0 → given d p x c ≡ 0 → if_commit_of (with_change h c) d p x ≡ if_commit_of h d p x
if_commit_untouched h c d p x into out = omega (arith, deal_came_push h c d p x, deal_went_push h c d p x)

pub if_abort_untouched : (h : History) (c : Change) (d p : Id) (x : List ℕ) → escrowed d p x c ≡ 0 → if_abort_of (with_change h c) d p x ≡ if_abort_of h d p x
if_abort_untouched h c d p x into = omega (arith, sum_by_push (escrowed d p x) h.changes c)

pub moves_untouched : (h : History) (c : Change) (d p : Id) → is_move d p c ≡ false → moves_of (with_change h c) d p ≡ moves_of h d p
moves_untouched h c d p quiet =
    omega (arith, ap (λ b. cond {A = ℕ} b 1 0) quiet, sum_by_push (λ i. cond (is_move d p i) 1 0) h.changes c)
