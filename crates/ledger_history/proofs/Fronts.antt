-- Histories in parts.
use Rattle.std.proofs.Common.{◌≡◌, ℕ, Ok, List, [], ◌∷◌, ◌++◌, refl, ap, sym, subst, append_assoc}
use Rattle.std.proofs.lemmas.List.{append-nil}
use Rattle.dh_base.specs.declared.id.Id.{Id}
use Rattle.act_text.specs.declared.act.Act.{Act}
use Rattle.act_text.specs.declared.office.Office.TheVariants.{Ledger}
use Rattle.act_text.specs.ActReading.{act_of}
use Rattle.escrow_book.specs.Opening.{Row}
use Rattle.escrow_book.specs.History.{History}
use Rattle.escrow_book.specs.Reached.{started}
use Rattle.ledger_rows.specs.declared.entry.Entry.{Entry}
use Rattle.ledger_rows.specs.declared.entry.Entry.TheVariants.{Act as Accepted}
use Rattle.ledger_rows.specs.Entries.{book_of, with_act, with_read, with_entry, with_entries}
use Rattle.ledger_history.specs.Histories.{IsNext, AreAccepted, IsHistory}

pub entries_append : (b : History) (front rest : List Entry) → with_entries b (front ++ rest) ≡ with_entries (with_entries b front) rest
entries_append b [] rest = refl
entries_append b (entry ∷ front) rest = entries_append (with_entry b entry) front rest

pub book_append : (rows : List Row) (front rest : List Entry) → book_of rows (front ++ rest) ≡ with_entries (book_of rows front) rest
book_append rows front rest = entries_append (started rows) front rest

-- the entry of a message that reads as the act
pub entry_is : (b : History) (a : Id) (q : ℕ) (message : List ℕ) (act : Act) → act_of Ledger message ≡ Ok act → with_entry b (Accepted a q message) ≡ with_act b a act
entry_is b a q message act reads = ap (with_read b a) reads

-- ---- parts

record Split (name : List ℕ) (b : History) (before front rest : List Entry) : Type 0 where
  pub first : AreAccepted name b before front
  pub later : AreAccepted name (with_entries b front) (before ++ front) rest

split : (name : List ℕ) (b : History) (before front rest : List Entry) → AreAccepted name b before (front ++ rest) → Split name b before front rest
split name b before [] rest a = record { first = tt; later = subst (λ l. AreAccepted name b l rest) (sym (append-nil before)) a }
split name b before (entry ∷ front) rest a =
    let s = split name (with_entry b entry) (before ++ entry ∷ []) front rest a.1 in
    record { first = (a.0, s.first); later = subst (λ l. AreAccepted name (with_entries (with_entry b entry) front) l rest) (append_assoc before (entry ∷ []) front) s.later }

pub front_is : (name : List ℕ) (rows : List Row) (front rest : List Entry) → IsHistory name rows (front ++ rest) → IsHistory name rows front
front_is name rows front rest h = record { good = h.good; accepted = (split name (started rows) [] front rest h.accepted).first }

pub rest_is : (name : List ℕ) (rows : List Row) (front rest : List Entry) → IsHistory name rows (front ++ rest) → AreAccepted name (book_of rows front) front rest
rest_is name rows front rest h = (split name (started rows) [] front rest h.accepted).later

join : (name : List ℕ) (b : History) (before front rest : List Entry) → AreAccepted name b before front → AreAccepted name (with_entries b front) (before ++ front) rest → AreAccepted name b before (front ++ rest)
join name b before [] rest a later = subst (λ l. AreAccepted name b l rest) (append-nil before) later
join name b before (entry ∷ front) rest a later =
    (a.0, join name (with_entry b entry) (before ++ entry ∷ []) front rest a.1 (subst (λ l. AreAccepted name (with_entries (with_entry b entry) front) l rest) (sym (append_assoc before (entry ∷ []) front)) later))

pub grows : (name : List ℕ) (rows : List Row) (entries : List Entry) (entry : Entry) → IsHistory name rows entries → IsNext name (book_of rows entries) entries entry → IsHistory name rows (entries ++ entry ∷ [])
grows name rows entries entry h next = record { good = h.good; accepted = join name (started rows) [] entries (entry ∷ []) h.accepted (next, tt) }
