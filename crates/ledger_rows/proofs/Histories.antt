-- The book of a history with one entry more.
use Rattle.std.proofs.Common.{◌≡◌, ℕ, List, [], ◌∷◌, ◌++◌, Result, Ok, refl, ap, ◌∙◌}
use Rattle.dh_base.specs.declared.id.Id.{Id}
use Rattle.act_text.specs.declared.act.Act.{Act}
use Rattle.act_text.specs.declared.act_fault.ActFault.{ActFault}
use Rattle.act_text.specs.declared.office.Office.TheVariants.{Ledger}
use Rattle.act_text.specs.ActReading.{act_of}
use Rattle.escrow_book.specs.Opening.{Row}
use Rattle.escrow_book.specs.History.{History}
use Rattle.escrow_book.specs.Reached.{started}
use Rattle.ledger_rows.specs.declared.entry.Entry.{Entry}
use Rattle.ledger_rows.specs.declared.entry.Entry.TheVariants.{Act as Accepted}
use Rattle.ledger_rows.specs.Entries.{with_act, with_read, with_entry, with_entries, book_of}

with_one_more : (book : History) (entries : List Entry) (e : Entry) → with_entries book (entries ++ e ∷ []) ≡ with_entry (with_entries book entries) e
with_one_more book [] e = refl
with_one_more book (first ∷ entries) e = with_one_more (with_entry book first) entries e

pub one_more : (opening : List Row) (entries : List Entry) (e : Entry) → book_of opening (entries ++ e ∷ []) ≡ with_entry (book_of opening entries) e
one_more opening entries e = with_one_more (started opening) entries e

-- an act, as it is read from its message
pub one_act_more : (opening : List Row) (entries : List Entry) (account : Id) (q : ℕ) (message : List ℕ) (act : Act) → act_of Ledger message ≡ Ok act →
    book_of opening (entries ++ Accepted account q message ∷ []) ≡ with_act (book_of opening entries) account act
one_act_more opening entries account q message act reads =
    one_more opening entries (Accepted account q message) ∙ ap (λ (r : Result Act ActFault). with_read (book_of opening entries) account r) reads
