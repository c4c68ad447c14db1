-- Registrations, by the deal's text and by the rows that they read.
use Rattle.std.specs.Prelude.{ℕ, ◌≡◌, ◌+◌, ◌-◌, ◌^◌, min, not, List, [], ◌∷◌, ◌++◌, length, Option, Some, None, is_some, MatchResult, Result, Ok}
use Rattle.std.specs.Option.{option_or}
use Rattle.dh_base.specs.declared.id.Id.{Id}
use Rattle.act_text.specs.declared.act.Act.TheVariants.{Register}
use Rattle.act_text.specs.declared.office.Office.TheVariants.{Ledger}
use Rattle.act_text.specs.ActReading.{act_of}
use Rattle.deal_core.specs.declared.deal_fault.DealFault.{DealFault}
use Rattle.deal_core.specs.Deals.{DealTold}
use Rattle.deal_core.specs.Reading.{Answers}
use Rattle.keeper_core.specs.declared.change.Change.{Change}
use Rattle.keeper_core.specs.Knowing.{Known}
use Rattle.keeper_core.specs.Stepping.{Backs, Steps}
use Rattle.keeper_core.specs.Tables.{Tables}
use Rattle.ledger_rows.specs.declared.entry.Entry.{Entry}
use Rattle.ledger_rows.specs.declared.entry.Entry.TheVariants.{Act}
use Rattle.ledger_rows.specs.ActChanges.{IsNew, act_changes, new_registration, registration_changes}
use Rattle.ledger_rows.specs.Entries.{digest_of}
use Rattle.ledger_rows.specs.OpenDeals.{room_said, room_refusal}
use Rattle.ledger_rows.specs.RowKeys.{deal_tab}
use Rattle.ledger_acts.specs.declared.ledger_fault.LedgerFault.{LedgerFault}
use Rattle.ledger_acts.specs.declared.ledger_id.LedgerId.{LedgerId}
use Rattle.ledger_acts.specs.declared.place.Place.{Place}
use Rattle.ledger_acts.specs.LedgerFaults.{of_ledger_fault}
use Rattle.ledger_acts.specs.Once.{once_refusal, once_batches, IsOnceAnswer}
use Rattle.ledger_acts.specs.LedgerState.{IsState}
use Rattle.ledger_acts.specs.LedgerStep.{Opened, first_of, acts_of, full, deals_full, text_refusal, register_refusal}
use Rattle.ledger_acts.specs.ByRows.{IsRefusedBy, ByRows, RowAct, act_refusal, act_batches}

-- ---- by the text

-- A text is examined for an account and a house: the id of its deal, or why it can't be registered.
abbrev pub Examines : Id → Id → List ℕ → Result Id LedgerFault → Type 0
Examines house account text result =
    (answer : Result DealTold DealFault) × Answers text answer
    × MatchResult result
    (λ deal. (text_refusal house account answer ≡ None) × (deal ≡ digest_of text))
    (IsRefusedBy (text_refusal house account answer))

-- ---- by the rows

-- how many open deals a refusal tells
abbrev pub told_open : ℕ → ℕ
told_open held = min held (2 ^ 32 - 1)

-- Why a ledger that accepted so many acts registers no deal: of an account with so many open deals,
-- where the deal isn't registered already.
abbrev pub room_fault : ℕ → Option ℕ → Option LedgerFault
room_fault acts None = full acts
room_fault acts (Some held) = first_of (deals_full (told_open held) ∷ full acts ∷ [])

abbrev pub registering_changes : Id → Id → List ℕ → List Change → Option ℕ → List Change
registering_changes account deal text act room =
    registration_changes (not (is_some room)) deal (new_registration account text) act

-- The registration, on a ledger that accepted so many acts, and with the changes of its act.
abbrev pub registering : Id → Id → List ℕ → ℕ → List Change → RowAct (Option ℕ)
registering account deal text acts act =
    record {
      said = room_said account deal;
      form = room_refusal deal;
      refusal = room_fault acts;
      changes = registering_changes account deal text act;
    }

-- the rows are looked at only where the text is good
abbrev pub registration_refusal : Option LedgerFault → RowAct (Option ℕ) → Tables
    → Option LedgerFault
registration_refusal refusal act tables = option_or refusal (act_refusal act tables)

-- The registration is answered by what the text reads as and by the rows, and commits its changes
-- where it is accepted.
abbrev pub RegistersByRows : Id → Id → List ℕ → ℕ → List Change → Result (Unit {0}) LedgerFault
    → Known → Known → Type 0
RegistersByRows house account text acts act result before after =
    let by_rows = registering account (digest_of text) text acts act in
    (answer : Result DealTold DealFault) × Answers text answer
    × ByRows 2 (Some deal_tab)
    (registration_refusal (text_refusal house account answer) by_rows) (act_batches by_rows)
    (λ tables done. Unit {0}) result before after

-- ---- by the history

-- The message is an act of the account under that key, which registers the text, and the key has
-- signed no entry.
pub record IsRegistrationOf (text : List ℕ) (entries : List Entry) (account : Id) (q : ℕ)
    (message : List ℕ) : Type 0 where
  pub reads : act_of Ledger message ≡ Ok (Register text)
  pub new : IsNew entries account q

-- The call is the ledger's step: its reply is the history's, and the tables then stand for the
-- history with the registration, or after a fault still for the history.
abbrev pub RegistersByStep : Id → List ℕ → ℕ → ℕ → Id → ℕ → List ℕ → Result (Unit {0}) LedgerFault
    → Known → Known → Type 0
RegistersByStep house text acts number account q message result before after =
    (opened : Opened) (entries : List Entry) → Backs (IsState opened) before.tables entries →
    house ≡ opened.house → IsRegistrationOf text entries account q message →
    acts ≡ acts_of entries → number ≡ length entries + 1 →
    (answer : Result DealTold DealFault) × Answers text answer
    × Steps (IsState opened) of_ledger_fault
    (register_refusal opened entries account text answer) (λ done. Unit {0}) entries
    (entries ++ Act account q message ∷ []) result before after

-- ---- once

-- The registration is made under its key once. Where the key has signed an accepted act, the text
-- isn't read.
abbrev pub RegistersOnceByRows : LedgerId → Place → Id → ℕ → List ℕ → List ℕ → Result ℕ LedgerFault
    → Known → Known → Type 0
RegistersOnceByRows ledger place account q message text result before after =
    let by_rows = registering account (digest_of text) text place.acts
    (act_changes place.number account q message) in
    (answer : Result DealTold DealFault) × Answers text answer
    × ByRows 3 (Some deal_tab)
    (once_refusal account q (digest_of message)
    (registration_refusal (text_refusal ledger.house account answer) by_rows))
    (once_batches account q (act_batches by_rows)) (IsOnceAnswer account q place.number)
    result before after
