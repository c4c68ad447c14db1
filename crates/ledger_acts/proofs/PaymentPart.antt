-- The rows that a payment reads make a part that agrees with the whole book.
use Rattle.std.proofs.Common.{◌≡◌, ℕ, ◌+◌, ◌==◌, ◌||◌, ◌&&◌, not, Bool, true, false, if◌then◌else◌, List, [], ◌∷◌, Some, None, refl, sym, ap, ◌∙◌, arith}
use Rattle.std.specs.Option.{option_or}
use Rattle.std.specs.Str.{bytes_eq}
use Rattle.dh_base.specs.declared.id.Id.{Id}
use Rattle.dh_base.specs.Ids.{same_id}
use Rattle.dh_base.proofs.SameIds.{same_id-self, same_id-swap}
use Rattle.escrow_book.specs.declared.change.Change.TheVariants.{Paid}
use Rattle.escrow_book.specs.declared.fault.BookFault.TheVariants as book
use Rattle.escrow_book.specs.declared.row.BookRow.{BookRow}
use Rattle.escrow_book.specs.declared.row.BookRow.TheVariants.{Free}
use Rattle.escrow_book.specs.History.{History, with_change, free_of}
use Rattle.escrow_book.specs.Reached.{IsReached, IsGrown, IsAccepted}
use Rattle.escrow_book.specs.Refused.{short, pay_refusal}
use Rattle.escrow_book.specs.Refused as refused
use Rattle.escrow_book.specs.Part.{AgreeOnPayment}
use Rattle.escrow_book.specs.PartRows.{no_rows, first_fault, are_not_bad, part_of}
use Rattle.escrow_book.proofs.Whole.{grown}
use Rattle.escrow_book.proofs.Rows.{good_rows}
use Rattle.escrow_book.proofs.RowsFound.{free_is}
use Rattle.escrow_book.proofs.Fitting.{no_fault_of_whole}
use Rattle.escrow_book.proofs.Parts.{agree_after, same_pay_refusal}
use Rattle.ledger_rows.specs.ActChanges.{payment_changes}
use Rattle.ledger_acts.specs.declared.movement.Movement.TheVariants.{Payment}
use Rattle.ledger_acts.specs.Movements.{payment_rows}
use Rattle.ledger_acts.proofs.Agreeing.{Agrees, same_bytes, and_true, and_false}

one_row : (here there : Bool) (a b : ℕ) → here ≡ true → there ≡ false → 0 + (if here then a else 0) + (if there then b else 0) ≡ a
one_row true false a b h t = omega arith
one_row true true a b h t = absurd cc
one_row false there a b h t = absurd cc

other_row : (here there : Bool) (a b : ℕ) → here ≡ false → there ≡ true → 0 + (if here then a else 0) + (if there then b else 0) ≡ b
other_row false true a b h t = omega arith
other_row false false a b h t = absurd cc
other_row true there a b h t = absurd cc

module _ (h : History) (from to : Id) (asset : List ℕ) (amount a b : ℕ) (reached : IsReached h) (is_a : a ≡ free_of h from asset) (is_b : b ≡ free_of h to asset) where
  module _ (apart : same_id from to ≡ false) where
    abbrev rows : List BookRow
    rows = Free from asset a ∷ Free to asset b ∷ []

    apart' : same_id to from ≡ false
    apart' = same_id-swap to from ∙ apart

    not_bad : are_not_bad no_rows rows ≡ true
    not_bad = free_row_new (same_id to from && bytes_eq asset asset) (and_false _ _ apart')
      where
        free_row_new : (there : Bool) → there ≡ false → (not (there || false) && true) ≡ true
        free_row_new false e = refl
        free_row_new true e = absurd cc

    fits_apart : first_fault no_rows 0 rows ≡ None
    fits_apart = no_fault_of_whole h rows reached not_bad (is_a, (is_b, tt))

    agree : AgreeOnPayment (part_of rows) h from to asset
    agree = record {
      sender = free_is rows from asset ∙ one_row _ _ a b (and_true _ _ (same_id-self from) (same_bytes asset)) (and_false _ _ apart) ∙ is_a;
      receiver = free_is rows to asset ∙ other_row _ _ a b (and_false _ _ apart') (and_true _ _ (same_id-self to) (same_bytes asset)) ∙ is_b;
    }

    part_grown : IsGrown (part_of rows)
    part_grown = record { good = good_rows rows (tt, (tt, tt)) fits_apart; accepted = tt }

    agree_then : IsAccepted h (Paid from to asset amount) → AgreeOnPayment (with_change (part_of rows) (Paid from to asset amount)) (with_change h (Paid from to asset amount)) from to asset
    agree_then accepted = agree_after (part_of rows) h (Paid from to asset amount) part_grown (grown h reached) agree accepted

    agrees_apart : Agrees (Payment from to asset amount) rows h
    agrees_apart = record {
      fits = fits_apart;
      same = same_pay_refusal (part_of rows) h from to asset amount agree;
      changes = λ accepted act. (let agreed = agree_then accepted in (λ i. payment_changes from to asset (agreed.sender i) (agreed.receiver i) act));
    }

  -- a payment to the payer itself is refused, whatever there is
  module _ (one : same_id from to ≡ true) where
    or_true : (n : Bool) (s : Bool) → s ≡ true → (n || s) ≡ true
    or_true true s e = refl
    or_true false s e = e

    self_refused : (held : History) → pay_refusal held from to asset amount ≡ Some book.ZeroOrSelf
    self_refused held = ap (λ (w : Bool). option_or (if w then Some book.ZeroOrSelf else None) (refused.first_of (short (free_of held from asset) amount ∷ []))) (or_true (amount == 0) (same_id from to) one)

    agrees_self : Agrees (Payment from to asset amount) (Free from asset a ∷ []) h
    agrees_self = record {
      fits = no_fault_of_whole h (Free from asset a ∷ []) reached refl (is_a, tt);
      same = self_refused (part_of (Free from asset a ∷ [])) ∙ sym (self_refused h);
      changes = λ accepted act. absurd (let clash : Some book.ZeroOrSelf ≡ None = sym (self_refused h) ∙ accepted in cc);
    }

  pub payment_agrees : Agrees (Payment from to asset amount) (payment_rows from to asset (a, b)) h
  payment_agrees = go (same_id from to) refl
    where
      go : (same : Bool) → same_id from to ≡ same → Agrees (Payment from to asset amount) (Free from asset a ∷ (if same then [] else Free to asset b ∷ [])) h
      go true one = agrees_self one
      go false apart = agrees_apart apart
