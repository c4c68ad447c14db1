-- What a call answers and leaves that reads rows, decides by them, and commits one batch or none.
use Rattle.std.specs.Prelude.{ℕ, List, Option, IfErr, Result}
use Rattle.keeper_core.specs.declared.change.Change.{Change}
use Rattle.keeper_core.specs.declared.store_fault.StoreFault.{StoreFault}
use Rattle.keeper_core.specs.Tables.{Tables}
use Rattle.keeper_core.specs.Knowing.{Known, LooksAtMost}
use Rattle.keeper_core.specs.Leaving.{Ended, ended}
use Rattle.keeper_core.specs.Stepping.{WhereTold, LeavesBy, IsReply, commits_unless}
use Rattle.ledger_acts.specs.declared.ledger_fault.LedgerFault.TheVariants as ledger
use Rattle.ledger_acts.specs.ByRows.{IsCause}
use Rattle.ledger_claims.specs.declared.show_fault.ShowFault.{ShowFault}
use Rattle.ledger_claims.specs.declared.show_fault.ShowFault.TheVariants.{Store}

-- The call is answered by the tables, and commits the batches where it is accepted. How many rows
-- it looks up is bounded by the tables, too.
pub record Commits {A F : Type 0} (by_fault : F → Ended) (Causes : Option Tables → F → Type 0)
    (looks : Tables → ℕ) (refusal : Tables → Option F) (batches : Tables → List (List Change))
    (IsAnswer : Tables → A → Type 0) (result : Result A F) (before after : Known) : Type 0 where
  pub leaves : LeavesBy (commits_unless refusal batches) (ended by_fault result) before after
  pub reply : WhereTold before after (λ tables.
      IsReply by_fault (refusal tables) (IsAnswer tables) result)
  pub cause : IfErr result (Causes after.tables)
  pub looked : WhereTold before after (λ tables. LooksAtMost (looks tables) before after)

-- A row that is named lacks its form, or fits no part of a book with the rows that were read
-- before it.
abbrev pub StoreCause : Option Tables → StoreFault → Type 0
StoreCause told fault = IsCause told (ledger.Store fault)

abbrev pub ShowCause : Option Tables → ShowFault → Type 0
ShowCause told (Store fault) = StoreCause told fault
ShowCause told _ = Unit {0}
