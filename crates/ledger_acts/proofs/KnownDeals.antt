-- The parties of deals have made no more transfers than a history has acts.
use Rattle.std.proofs.Common.{ℕ, ◌+◌, ◌≤◌, Bool, true, false, cond, if◌then◌else◌, List, [], ◌∷◌, Result, Ok, Err, refl, arith}
use Rattle.std.proofs.lemmas.List.Sums.{sum_by_push, sum_by-cons}
use Rattle.dh_base.specs.declared.id.Id.{Id}
use Rattle.act_text.specs.declared.act.Act.{Act}
use Rattle.act_text.specs.declared.act.Act.TheVariants.{Register, Pay, Escrow, Transfer, StartDeal, Vote}
use Rattle.act_text.specs.declared.act_fault.ActFault.{ActFault}
use Rattle.act_text.specs.declared.office.Office.TheVariants.{Ledger}
use Rattle.act_text.specs.ActReading.{act_of}
use Rattle.deal_core.specs.Drafts.{parties_in}
use Rattle.escrow_book.specs.declared.change.Change.{Change}
use Rattle.escrow_book.specs.declared.change.Change.TheVariants.{Registered, Paid, Escrowed, Transferred, Settled}
use Rattle.escrow_book.specs.Opening.{Row}
use Rattle.escrow_book.specs.History.{History, with_change, is_known, is_move, moves_of}
use Rattle.escrow_book.specs.Reached.{started, registered}
use Rattle.escrow_book.proofs.Parts.{moves_untouched}
use Rattle.ledger_rows.specs.declared.entry.Entry.{Entry}
use Rattle.ledger_rows.specs.declared.entry.Entry.TheVariants.{Act as Accepted, Settlement}
use Rattle.ledger_rows.specs.Entries.{digest_of, with_read, with_entry, with_entries, book_of}
pub use Rattle.ledger_rows.proofs.KnownDeals.{parties_by, parties_by_entries}
use Rattle.ledger_acts.specs.LedgerStep.{is_act, acts_of}

at_most_one : (b : Bool) → cond {A = ℕ} b 1 0 ≤ 1
at_most_one true = omega arith
at_most_one false = omega arith

one_more : (h : History) (c : Change) (d p : Id) → moves_of (with_change h c) d p ≤ moves_of h d p + 1
one_more h c d p = omega (arith, sum_by_push (λ (e : Change). cond {A = ℕ} (is_move d p e) 1 0) h.changes c, at_most_one (is_move d p c))

one_more_registered : (h : History) (e : Id) (parties : List Id) (d p : Id) → moves_of (registered h e parties) d p ≤ moves_of h d p + 1
one_more_registered h e parties d p = go (is_known h e)
  where
    go : (known : Bool) → moves_of (if known then h else with_change h (Registered e parties)) d p ≤ moves_of h d p + 1
    go true = omega arith
    go false = one_more h (Registered e parties) d p

read_moves : (d p : Id) (book : History) (account : Id) (read : Result Act ActFault) → moves_of (with_read book account read) d p ≤ moves_of book d p + 1
read_moves d p book account (Err fault) = omega arith
read_moves d p book account (Ok (Register text)) = one_more_registered book (digest_of text) (parties_in text) d p
read_moves d p book account (Ok (Pay house ledger to asset amount)) = one_more book (Paid account to asset amount) d p
read_moves d p book account (Ok (Escrow deal ledger asset amount)) = one_more book (Escrowed deal account asset amount) d p
read_moves d p book account (Ok (Transfer deal ledger turn to asset amount)) = one_more book (Transferred deal account to asset amount) d p
read_moves d p book account (Ok (StartDeal text)) = omega arith
read_moves d p book account (Ok (Vote deal index choice)) = omega arith

entry_moves : (d p : Id) (book : History) (entry : Entry) → moves_of (with_entry book entry) d p ≤ moves_of book d p + cond (is_act entry) 1 0
entry_moves d p book (Accepted account q message) = read_moves d p book account (act_of Ledger message)
entry_moves d p book (Settlement deal outcome) = omega (arith, moves_untouched book (Settled deal outcome) d p refl)

moves_from : (d p : Id) (entries : List Entry) (book : History) → moves_of (with_entries book entries) d p ≤ moves_of book d p + acts_of entries
moves_from d p [] book = omega arith
moves_from d p (entry ∷ entries) book =
    omega (arith, moves_from d p entries (with_entry book entry), entry_moves d p book entry, sum_by-cons (λ (e : Entry). cond {A = ℕ} (is_act e) 1 0) entry entries)

pub moves_within_acts : (opening : List Row) (entries : List Entry) (d p : Id) → moves_of (book_of opening entries) d p ≤ acts_of entries
moves_within_acts opening entries d p = omega (arith, moves_from d p entries (started opening))
