-- Movements: payments, escrows and transfers, by the rows that they read.
use Rattle.std.specs.Prelude.{ℕ, ◌+◌, ◌<◌, ◌&&◌, if◌then◌else◌, List, [], ◌∷◌, Option, Some, None, Bool, Result}
use Rattle.std.specs.List.{slice_get}
use Rattle.std.specs.Option.{option_map, option_or}
use Rattle.dh_base.specs.declared.id.Id.{Id}
use Rattle.dh_base.specs.Ids.{same_id}
use Rattle.act_text.specs.declared.act.Act.{Act}
use Rattle.act_text.specs.declared.act.Act.TheVariants as act
use Rattle.escrow_book.specs.declared.change.Change.{Change as BookChange}
use Rattle.escrow_book.specs.declared.change.Change.TheVariants.{Paid, Escrowed, Transferred}
use Rattle.escrow_book.specs.declared.fault.BookFault.{BookFault}
use Rattle.escrow_book.specs.declared.part_fault.PartFault.{PartFault}
use Rattle.escrow_book.specs.declared.part_fault.PartFault.TheVariants as part
use Rattle.escrow_book.specs.declared.row.BookRow.{BookRow}
use Rattle.escrow_book.specs.declared.row.BookRow.TheVariants.{Free, Deal, Hold, Moves}
use Rattle.escrow_book.specs.Base.{greatest_turn}
use Rattle.escrow_book.specs.History.{History, with_change, is_in, moves_of, free_of}
use Rattle.escrow_book.specs.Refused.{pay_refusal, escrow_refusal, transfer_refusal}
use Rattle.escrow_book.specs.PartRows.{no_rows, first_fault, part_of}
use Rattle.deal_core.specs.Drafts.{parties_in}
use Rattle.keeper_core.specs.declared.change.Change.{Change}
use Rattle.keeper_core.specs.declared.store_fault.StoreFault.{StoreFault}
use Rattle.keeper_core.specs.declared.store_fault.StoreFault.TheVariants as store
use Rattle.keeper_core.specs.StoreFaults.{bad_row_of}
use Rattle.keeper_core.specs.Knowing.{Known}
use Rattle.keeper_core.specs.Tables.{Tables}
use Rattle.ledger_rows.specs.declared.hold.Hold.{Hold as Held}
use Rattle.ledger_rows.specs.declared.registration.Registration.{Registration}
use Rattle.ledger_rows.specs.RowReading.{both_said, either_refusal, free_said, free_refusal, deal_said, deal_refusal, hold_said, hold_refusal, moves_said, moves_refusal}
use Rattle.ledger_rows.specs.LedgerTables.{hold_of}
use Rattle.ledger_rows.specs.Entries.{digest_of}
use Rattle.ledger_rows.specs.ActChanges.{act_changes, payment_changes, escrow_changes, transfer_changes}
use Rattle.ledger_acts.specs.declared.ledger_fault.LedgerFault.{LedgerFault}
use Rattle.ledger_acts.specs.declared.ledger_fault.LedgerFault.TheVariants.{Store}
use Rattle.ledger_acts.specs.declared.movement.Movement.{Movement}
use Rattle.ledger_acts.specs.declared.movement.Movement.TheVariants.{Payment, Escrow, Transfer}
use Rattle.ledger_acts.specs.declared.ledger_id.LedgerId.{LedgerId}
use Rattle.ledger_acts.specs.LedgerStep.{first_of, by_book, wrong_ledger, wrong_house, full}
use Rattle.ledger_acts.specs.declared.place.Place.{Place}
use Rattle.ledger_acts.specs.ByRows.{cell_of_row, ByRows, RowAct, act_refusal, act_batches}
use Rattle.ledger_acts.specs.Once.{once_refusal, once_batches, IsOnceAnswer}

-- ---- in a book

abbrev pub change_of : Movement → BookChange
change_of (Payment from to asset amount) = Paid from to asset amount
change_of (Escrow deal party asset amount) = Escrowed deal party asset amount
change_of (Transfer deal from turn to asset amount) = Transferred deal from to asset amount

abbrev pub book_refusal : History → Movement → Option BookFault
book_refusal book (Payment from to asset amount) = pay_refusal book from to asset amount
book_refusal book (Escrow deal party asset amount) = escrow_refusal book deal party asset amount
book_refusal book (Transfer deal from turn to asset amount) =
    transfer_refusal book deal from turn to asset amount

-- the sender has made fewer transfers than a turn can count
abbrev pub TurnFits : History → Movement → Type 0
TurnFits book (Transfer deal from turn to asset amount) = moves_of book deal from < greatest_turn
TurnFits book movement = Unit {0}

-- the changes of the rows, where the book is the one behind the movement, and those of the act
abbrev pub changes_of : History → Movement → List Change → List Change
changes_of book (Payment from to asset amount) act =
    payment_changes from to asset (free_of book from asset) (free_of book to asset) act
changes_of book (Escrow deal party asset amount) act =
    escrow_changes deal party asset (free_of book party asset) (hold_of book deal party asset) act
changes_of book (Transfer deal from turn to asset amount) act =
    transfer_changes deal from to asset (moves_of book deal from) (hold_of book deal from asset)
    (hold_of book deal to asset) act

-- ---- the rows of a part

abbrev pub hold_row : Id → Id → List ℕ → Held → BookRow
hold_row deal account asset held = Hold deal account asset held.commit held.abort

-- what sender and receiver can spend
abbrev pub payment_rows : Id → Id → List ℕ → ℕ × ℕ → List BookRow
payment_rows from to asset said =
    Free from asset said.0 ∷ (if same_id from to then [] else Free to asset said.1 ∷ [])

-- the rows of a deal, if it is registered, and those behind it, if the accounts are its parties
abbrev pub deal_rows : Id → (List Id → Bool) → List BookRow → Option Registration → List BookRow
deal_rows deal are_among rows None = []
deal_rows deal are_among rows (Some found) =
    Deal deal (parties_in found.text) found.settled
    ∷ (if are_among (parties_in found.text) then rows else [])

-- the deal, what the party can spend and what it owns in the deal
abbrev pub escrow_rows : Id → Id → List ℕ → Option Registration × (ℕ × Held) → List BookRow
escrow_rows deal party asset said =
    deal_rows deal (is_in party)
    (Free party asset said.1.0 ∷ hold_row deal party asset said.1.1 ∷ []) said.0

-- the deal, how many transfers the sender has made, what sender and receiver own in the deal
abbrev pub transfer_rows : Id → Id → Id → List ℕ → Option Registration × (ℕ × (Held × Held))
    → List BookRow
transfer_rows deal from to asset said =
    deal_rows deal (λ parties. is_in from parties && is_in to parties)
    (Moves deal from said.1.0 ∷ hold_row deal from asset said.1.1.0
    ∷ (if same_id from to then [] else hold_row deal to asset said.1.1.1 ∷ [])) said.0

-- ---- by the tables

-- how many rows are looked up at most
abbrev pub movement_looks : Movement → ℕ
movement_looks (Payment from to asset amount) = 2
movement_looks (Escrow deal party asset amount) = 3
movement_looks (Transfer deal from turn to asset amount) = 4

-- the rows of the part of the book that the movement touches
abbrev pub movement_said : Movement → Tables → Option (List BookRow)
movement_said (Payment from to asset amount) tables =
    option_map (payment_rows from to asset)
    (both_said (free_said from asset) (free_said to asset) tables)
movement_said (Escrow deal party asset amount) tables =
    option_map (escrow_rows deal party asset)
    (both_said (deal_said deal) (both_said (free_said party asset) (hold_said deal party asset))
    tables)
movement_said (Transfer deal from turn to asset amount) tables =
    option_map (transfer_rows deal from to asset)
    (both_said (deal_said deal)
    (both_said (moves_said deal from)
    (both_said (hold_said deal from asset) (hold_said deal to asset))) tables)

-- the first row that lacks its form
abbrev pub movement_form : Movement → Tables → Option StoreFault
movement_form (Payment from to asset amount) =
    either_refusal (free_refusal from asset) (free_refusal to asset)
movement_form (Escrow deal party asset amount) =
    either_refusal (deal_refusal deal)
    (either_refusal (free_refusal party asset) (hold_refusal deal party asset))
movement_form (Transfer deal from turn to asset amount) =
    either_refusal (deal_refusal deal)
    (either_refusal (moves_refusal deal from)
    (either_refusal (hold_refusal deal from asset) (hold_refusal deal to asset)))

-- ---- by the rows

-- the fault that names the row, if there is one
abbrev pub naming : Option BookRow → LedgerFault
naming None = Store store.NoMemory
naming (Some row) = Store (bad_row_of (cell_of_row row).0 (cell_of_row row).1)

-- a row that fits no part is named
abbrev pub part_refusal : List BookRow → PartFault → LedgerFault
part_refusal rows (part.BadRows place) = naming (slice_get rows place)
part_refusal rows (part.SumTooLarge place) = naming (slice_get rows place)
part_refusal rows part.NoMemory = Store store.NoMemory

-- why the rows make no part
abbrev pub rows_refusal : List BookRow → Option LedgerFault
rows_refusal rows = option_map (part_refusal rows) (first_fault no_rows 0 rows)

-- why the part of these rows refuses the movement
abbrev pub moved_refusal : Movement → List BookRow → Option LedgerFault
moved_refusal movement rows =
    first_of (rows_refusal rows ∷ by_book (book_refusal (part_of rows) movement) ∷ [])

-- the part of these rows with the movement
abbrev pub moved_part : Movement → List BookRow → History
moved_part movement rows = with_change (part_of rows) (change_of movement)

-- the refusal on a ledger that accepted so many acts
abbrev pub movement_refusal : Movement → ℕ → List BookRow → Option LedgerFault
movement_refusal movement acts rows = first_of (moved_refusal movement rows ∷ full acts ∷ [])

-- The movement, on a ledger that accepted so many acts, and with the changes of its act.
abbrev pub moving : Movement → ℕ → List Change → RowAct (List BookRow)
moving movement acts act =
    record {
      said = movement_said movement;
      form = movement_form movement;
      refusal = movement_refusal movement acts;
      changes = λ rows. changes_of (moved_part movement rows) movement act;
    }

-- ---- by acts

-- what the act moves, as an act of the account
abbrev pub movement_of : Id → Act → Option Movement
movement_of account (act.Pay house ledger to asset amount) =
    Some (Payment account to asset amount)
movement_of account (act.Escrow deal ledger asset amount) =
    Some (Escrow deal account asset amount)
movement_of account (act.Transfer deal ledger turn to asset amount) =
    Some (Transfer deal account turn to asset amount)
movement_of account act = None

-- the refusal by the ledger and the house that the act names
abbrev pub head_refusal : LedgerId → Act → Option LedgerFault
head_refusal ledger (act.Pay house named to asset amount) =
    first_of (wrong_ledger ledger.name named ∷ wrong_house ledger.house house ∷ [])
head_refusal ledger (act.Escrow deal named asset amount) = wrong_ledger ledger.name named
head_refusal ledger (act.Transfer deal named turn to asset amount) =
    wrong_ledger ledger.name named
head_refusal ledger act = None

-- the refusal of a movement behind that of what its act names
abbrev pub headed : Option LedgerFault → (Tables → Option LedgerFault) → Tables
    → Option LedgerFault
headed head refusal tables = option_or head (refusal tables)

-- The movement that the act asks for is made by the rows, if the act names the ledger.
abbrev pub MovesByRows : LedgerId → Place → Id → ℕ → List ℕ → Act → Movement
    → Result (Unit {0}) LedgerFault → Known → Known → Type 0
MovesByRows ledger place account q message act movement =
    let asked = moving movement place.acts (act_changes place.number account q message) in
    ByRows (movement_looks movement) None (headed (head_refusal ledger act) (act_refusal asked))
    (act_batches asked) (λ tables done. Unit {0})

-- It is made under its key once.
abbrev pub MovesOnceByRows : LedgerId → Place → Id → ℕ → List ℕ → Act → Movement
    → Result ℕ LedgerFault → Known → Known → Type 0
MovesOnceByRows ledger place account q message act movement =
    let asked = moving movement place.acts (act_changes place.number account q message) in
    ByRows (1 + movement_looks movement) None
    (once_refusal account q (digest_of message)
    (headed (head_refusal ledger act) (act_refusal asked)))
    (once_batches account q (act_batches asked)) (IsOnceAnswer account q place.number)
