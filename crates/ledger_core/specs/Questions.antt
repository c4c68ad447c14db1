-- What a ledger answers to questions: by its tables, and by the history that they stand for.
use Rattle.std.specs.Prelude.{ℕ, ◌+◌, if◌then◌else◌, List, length, Option, Some, None, is_some, IfSome, Result}
use Rattle.std.specs.Option.{option_map, option_or}
use Rattle.dh_base.specs.declared.id.Id.{Id}
use Rattle.dh_base.specs.declared.outcome.Outcome.{Outcome}
use Rattle.keeper_core.specs.Tables.{Tables, rows_of}
use Rattle.keeper_core.specs.Knowing.{Known}
use Rattle.keeper_core.specs.Leaving.{Ended}
use Rattle.keeper_core.specs.Stepping.{IsReply, Backs}
use Rattle.keeper_core.specs.StoreFaults.{HasCause}
use Rattle.ledger_rows.specs.declared.entry.Entry.{Entry}
use Rattle.ledger_rows.specs.declared.registration.Registration.{Registration}
use Rattle.ledger_rows.specs.Entries.{registration_of}
use Rattle.ledger_rows.specs.RowReading.{LacksForm, deal_said, deal_refusal}
use Rattle.ledger_acts.specs.LedgerStep.{Opened}
use Rattle.ledger_acts.specs.LedgerState.{IsState}
use Rattle.ledger_core.specs.declared.ask_fault.AskFault.{AskFault}
use Rattle.ledger_core.specs.declared.ask_fault.AskFault.TheVariants.{UnknownDeal, Store}

-- how many rows a call may look up beside those of a table
abbrev pub rows_beside : ℕ → Tables → ℕ
rows_beside tab tables = 8 + length (rows_of tab tables)

-- ---- by the history

-- The reply is the history's, and the tables stand for the history then.
pub record Tells {A F : Type 0} (by_fault : F → Ended) (refusal : Option F) (IsAnswer : A → Type 0)
    (opened : Opened) (entries : List Entry) (result : Result A F) (after : Known) : Type 0 where
  pub reply : IfSome after.tables (λ _. IsReply by_fault refusal IsAnswer result)
  pub same : Backs (IsState opened) after.tables entries

-- Where the told tables stand for a history, the call is answered by it.
abbrev pub TellsBy : {A F : Type 0} → (F → Ended) → (List Entry → Option F)
    → (Opened → List Entry → A → Type 0) → Result A F → Known → Known → Type 0
TellsBy by_fault refusal IsAnswer result before after =
    (opened : Opened) (entries : List Entry) → Backs (IsState opened) before.tables entries →
    Tells by_fault (refusal entries) (IsAnswer opened entries) opened entries result after

-- a deal that no entry registers is refused
abbrev pub unknown_deal : Id → List Entry → Option AskFault
unknown_deal deal entries =
    if is_some (registration_of entries deal) then None else Some UnknownDeal

-- ---- by the tables

abbrev pub is_unknown : Option (Option Registration) → Option AskFault
is_unknown (Some None) = Some UnknownDeal
is_unknown _ = None

abbrev pub settlement_refusal : Id → Tables → Option AskFault
settlement_refusal deal tables =
    option_or (option_map Store (deal_refusal deal tables)) (is_unknown (deal_said deal tables))

abbrev pub outcome_of : Option (Option Registration) → Option Outcome
outcome_of (Some (Some deal)) = deal.settled
outcome_of _ = None

-- ---- why a call is refused

-- A row that is named lacks its form.
abbrev pub AskCause : Option Tables → AskFault → Type 0
AskCause told (Store fault) = HasCause LacksForm told fault
AskCause told _ = Unit {0}
