-- What the tables of a ledger stand for: the entries of its history, over its opening.
use Rattle.std.specs.Prelude.{ℕ, ◌≡◌, ◌*◌, ◌≤◌, List, ◌∷◌, codes, length, Some, Ok}
use Rattle.std.specs.List.{AllByRecursion}
use Rattle.std.specs.FinMap.{get}
use Rattle.act_text.specs.declared.act.Act.TheVariants.{Register}
use Rattle.act_text.specs.declared.office.Office.TheVariants.{Ledger}
use Rattle.act_text.specs.ActReading.{act_of}
use Rattle.deal_core.specs.Deals.{DealTold}
use Rattle.deal_core.specs.Reading.{IsTextOf}
use Rattle.escrow_book.specs.Reached.{IsReached}
use Rattle.keeper_core.specs.Tables.{Tables}
use Rattle.ledger_rows.specs.declared.entry.Entry.{Entry}
use Rattle.ledger_rows.specs.declared.entry.Entry.TheVariants.{Act, Settlement}
use Rattle.ledger_rows.specs.Entries.{book_of}
use Rattle.ledger_rows.specs.LedgerTables.{StandsFor}
use Rattle.ledger_rows.specs.RowValues.{EntryFits}
use Rattle.ledger_acts.specs.LedgerStep.{Opened, most_acts, acts_of}

-- the table of what a keeper is
abbrev pub form_tab : ℕ
form_tab = 1

abbrev pub form_key : List ℕ
form_key = codes "m"

-- the form of the tables, the role of a ledger, and the identity
abbrev pub form_text : Opened → List ℕ
form_text opened = 1 ∷ 1 ∷ opened.identity.0

-- A text that the entry registers is a deal's.
abbrev pub RegistersDeal : Entry → Type 0
RegistersDeal (Act account q message) =
    (text : List ℕ) → act_of Ledger message ≡ Ok (Register text)
    → (deal : DealTold) × IsTextOf deal text
RegistersDeal (Settlement deal outcome) = Unit {0}

-- The tables are those of the ledger, at a history that a ledger can have.
pub record IsState (opened : Opened) (tables : Tables) (entries : List Entry) : Type 0 where
  pub reached : IsReached (book_of opened.rows entries)
  pub few : acts_of entries ≤ most_acts
  -- no deal ends that no act has registered
  pub acted : length entries ≤ 2 * acts_of entries
  -- each entry has a spelling, and registers no text but a deal's
  pub fits : AllByRecursion EntryFits entries
  pub deals : AllByRecursion RegistersDeal entries
  pub form : get tables (form_tab, form_key) ≡ Some (form_text opened)
  pub stands : StandsFor tables opened.rows entries
