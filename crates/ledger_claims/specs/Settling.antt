-- A settlement, by the rows that it reads.
use Rattle.std.specs.Prelude.{ℕ, List, [], ◌∷◌, Option, Some, None, Result}
use Rattle.std.specs.List.{slice_get}
use Rattle.std.specs.Option.{option_map, option_or, option_and_then}
use Rattle.dh_base.specs.declared.id.Id.{Id}
use Rattle.dh_base.specs.declared.outcome.Outcome.{Outcome}
use Rattle.deal_core.specs.Drafts.{parties_in}
use Rattle.escrow_book.specs.declared.change.Change.TheVariants.{Settled}
use Rattle.escrow_book.specs.declared.part_fault.PartFault.{PartFault}
use Rattle.escrow_book.specs.declared.part_fault.PartFault.TheVariants as part
use Rattle.escrow_book.specs.declared.row.BookRow.{BookRow}
use Rattle.escrow_book.specs.declared.row.BookRow.TheVariants.{Free, Deal, Hold}
use Rattle.escrow_book.specs.History.{History, with_change, free_of}
use Rattle.escrow_book.specs.PartRows.{no_rows, first_fault, part_of}
use Rattle.keeper_core.specs.declared.change.Change.{Change}
use Rattle.keeper_core.specs.declared.store_fault.StoreFault.{StoreFault}
use Rattle.keeper_core.specs.declared.store_fault.StoreFault.TheVariants as store
use Rattle.keeper_core.specs.StoreFaults.{bad_row_of}
use Rattle.keeper_core.specs.Tables.{Tables}
use Rattle.keeper_core.specs.Knowing.{Known}
use Rattle.keeper_core.specs.Leaving.{of_store_fault}
use Rattle.ledger_rows.specs.declared.entry.Entry.TheVariants.{Settlement}
use Rattle.ledger_rows.specs.declared.registration.Registration.{Registration}
use Rattle.ledger_rows.specs.RowChanges.{free_change, deal_change, entry_change}
use Rattle.ledger_acts.specs.ByRows.{cell_of_row, batches_of}
use Rattle.ledger_claims.specs.declared.payees.Payee.{Payee}
use Rattle.ledger_claims.specs.ByTables.{Commits, StoreCause}
use Rattle.ledger_claims.specs.Payees.{payees_at, payees_form, beside_twice}

-- ---- the rows of a part

-- what each owner can spend, and what it owns
abbrev pub payee_rows : List Payee → List BookRow
payee_rows [] = []
payee_rows (payee ∷ rest) =
    Free payee.hold.account payee.hold.asset payee.free
    ∷ Hold payee.hold.deal payee.hold.account payee.hold.asset payee.hold.commit payee.hold.abort
    ∷ payee_rows rest

-- the deal, which hasn't ended, and the rows of its owners
abbrev pub part_rows : Id → List ℕ → List Payee → List BookRow
part_rows deal text payees = Deal deal (parties_in text) None ∷ payee_rows payees

-- the fault that names the row, if there is one
abbrev pub naming : Option BookRow → StoreFault
naming None = store.NoMemory
naming (Some row) = bad_row_of (cell_of_row row).0 (cell_of_row row).1

-- a row that fits no part is named
abbrev pub misfit_of : List BookRow → PartFault → StoreFault
misfit_of rows (part.BadRows place) = naming (slice_get rows place)
misfit_of rows (part.SumTooLarge place) = naming (slice_get rows place)
misfit_of rows part.NoMemory = store.NoMemory

-- why the rows make no part
abbrev pub part_refusal : List BookRow → Option StoreFault
part_refusal rows = option_map (misfit_of rows) (first_fault no_rows 0 rows)

-- the part of these rows, once the deal has ended so
abbrev pub settled_part : Id → Outcome → List BookRow → History
settled_part deal outcome rows = with_change (part_of rows) (Settled deal outcome)

-- ---- what is committed

-- what each owner can spend by the book
abbrev pub payout_changes : History → List Payee → List Change
payout_changes book [] = []
payout_changes book (payee ∷ rest) =
    free_change payee.hold.account payee.hold.asset
    (free_of book payee.hold.account payee.hold.asset)
    ∷ payout_changes book rest

-- the deal, its settlement as the entry of that number, and what the owners can spend
abbrev pub ending_changes : ℕ → Id → Registration → Outcome → History → List Payee → List Change
ending_changes number deal found outcome book payees =
    deal_change deal (record found { settled = Some outcome })
    ∷ entry_change number (Settlement deal outcome) ∷ payout_changes book payees

abbrev pub settling_changes : ℕ → Id → Registration → Outcome → List Payee → List Change
settling_changes number deal found outcome payees =
    ending_changes number deal found outcome
    (settled_part deal outcome (part_rows deal found.text payees)) payees

-- ---- by the tables

-- The rows of the owners are read, and make a part with the deal.
abbrev pub settling_refusal : Id → Registration → Tables → Option StoreFault
settling_refusal deal found tables =
    option_or (payees_form deal tables)
    (option_and_then (λ payees. part_refusal (part_rows deal found.text payees))
    (payees_at deal tables))

abbrev pub settling_batches : ℕ → Id → Registration → Outcome → Tables → List (List Change)
settling_batches number deal found outcome tables =
    batches_of (option_map (settling_changes number deal found outcome) (payees_at deal tables))

-- The deal, which is registered so and hasn't ended, is settled by the rows.
abbrev pub SettlesByRows : ℕ → Id → Registration → Outcome → Result (Unit {0}) StoreFault
    → Known → Known → Type 0
SettlesByRows number deal found outcome =
    Commits of_store_fault StoreCause (beside_twice 1) (settling_refusal deal found)
    (settling_batches number deal found outcome) (λ tables done. Unit {0})
