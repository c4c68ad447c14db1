-- How a book keeps its history: each change with the outcome of its deal, and the deals at hand.
use Rattle.std.specs.Prelude.{◌≡◌, Bool, false, if◌then◌else◌, Option, Some, None, List, map}
use Rattle.std.specs.List.{AllByRecursion}
use Rattle.std.specs.Option.{option_map, option_and_then}
use Rattle.dh_base.specs.declared.id.Id.{Id}
use Rattle.dh_base.specs.declared.outcome.Outcome.{Outcome}
use Rattle.escrow_book.specs.declared.change.Change.{Change}
use Rattle.escrow_book.specs.declared.change.Change.TheVariants.{Registered, Escrowed, Transferred, Settled}
use Rattle.escrow_book.specs.declared.entry.Entry.{Entry}
use Rattle.escrow_book.specs.declared.known_deal.KnownDeal.{KnownDeal}
use Rattle.escrow_book.specs.declared.row.HoldRow.{HoldRow}
use Rattle.escrow_book.specs.declared.row.MovesRow.{MovesRow}
use Rattle.escrow_book.specs.Opening.{Row}
use Rattle.dh_base.specs.Ids.{same_id}
use Rattle.escrow_book.specs.Base.{Base, find_deal}
use Rattle.escrow_book.specs.History.{History, first_answer, settlement, parties_of, settlement_of}
use Rattle.escrow_book.specs.Reached.{IsGrown}

-- the deal, once that one has ended so
abbrev pub with_outcome : Id → Outcome → KnownDeal → KnownDeal
with_outcome deal outcome known =
    if same_id deal known.deal then record known { outcome = Some outcome } else known

abbrev pub change_in : Entry → Change
change_in entry = entry.change

-- the change moves something in the deal
abbrev pub is_under : Id → Change → Bool
is_under deal (Escrowed within owner asset amount) = same_id deal within
is_under deal (Transferred within from to asset amount) = same_id deal within
is_under deal _ = false

-- the entry, once that deal has ended so
abbrev pub with_end : Id → Outcome → Entry → Entry
with_end deal outcome entry =
    if is_under deal entry.change then record entry { ended = Some outcome } else entry

-- how the changes of the history have ended the deal
abbrev pub ended_here : History → Id → Option Outcome
ended_here history deal = first_answer (settlement deal) history.changes

-- how the deal has ended in which the change moves something
abbrev pub ended_by : History → Change → Option Outcome
ended_by history (Escrowed deal owner asset amount) = ended_here history deal
ended_by history (Transferred deal from to asset amount) = ended_here history deal
ended_by history _ = None

-- the change registers no deal and settles none
abbrev pub LeavesDeals : Change → Type 0
LeavesDeals (Registered deal parties) = ⊥
LeavesDeals (Settled deal outcome) = ⊥
LeavesDeals _ = Unit {0}

abbrev pub base_kept : List Row → List KnownDeal → List HoldRow → List MovesRow → Base
base_kept rows deals holds moves = (rows, record { deals = deals; holds = holds; moves = moves })

-- the history that this base and these entries stand for
abbrev pub history_kept : Base → List Entry → History
history_kept base entries =
    record { opening = base.0; carried = base.1; changes = map change_in entries }

-- each entry has the end of its deal
abbrev pub AreEnded : History → List Entry → Type 0
AreEnded history entries =
    AllByRecursion (λ entry. entry.ended ≡ ended_by history entry.change) entries

-- the history has grown so, and the ends of the entries and the deals at hand say what it says
pub record IsKept (history : History) (entries : List Entry) (deals : List KnownDeal) : Type 0 where
  pub grown : IsGrown history
  pub ends : AreEnded history entries
  pub parties : (deal : Id)
      → parties_of history deal
      ≡ option_map (λ (known : KnownDeal). known.parties) (find_deal deals deal)
  pub outcomes : (deal : Id)
      → settlement_of history deal
      ≡ option_and_then (λ (known : KnownDeal). known.outcome) (find_deal deals deal)
