-- The ledger's step over a keeper.
use Rattle.std.specs.Prelude.{ℕ, ◌≡◌, ◌⊎◌, ◌+◌, ◌<◌, ◌^◌, List, length, Option, Some, None, IfSome, IfErr, Result, Ok, Err}
use Rattle.dh_base.specs.declared.id.Id.{Id}
use Rattle.act_text.specs.declared.act.Act.{Act}
use Rattle.act_text.specs.declared.act.Act.TheVariants.{Register}
use Rattle.act_text.specs.declared.act_fault.ActFault.{ActFault}
use Rattle.act_text.specs.declared.office.Office.TheVariants.{Ledger}
use Rattle.act_text.specs.ActReading.{act_of}
use Rattle.act_text.specs.ActTexts.{ActFits}
use Rattle.keeper_core.specs.declared.change.Change.{Change}
use Rattle.keeper_core.specs.Knowing.{Known}
use Rattle.keeper_core.specs.Leaving.{failed, starved, ended, Leaves}
use Rattle.keeper_core.specs.Stepping.{Backs, Steps}
use Rattle.key_ring.specs.declared.envelope.Envelope.{Envelope}
use Rattle.ledger_rows.specs.RowKeys.{deal_tab}
use Rattle.ledger_rows.specs.declared.entry.Entry.{Entry}
use Rattle.ledger_rows.specs.Entries.{used_of}
use Rattle.ledger_acts.specs.declared.ledger_fault.LedgerFault.{LedgerFault}
use Rattle.ledger_acts.specs.declared.ledger_id.LedgerId.{LedgerId}
use Rattle.ledger_acts.specs.declared.place.Place.{Place}
use Rattle.ledger_acts.specs.LedgerFaults.{of_ledger_fault}
use Rattle.ledger_acts.specs.LedgerStep.{Opened, acts_of, ActSteps, LedgerStep}
use Rattle.ledger_acts.specs.ByRows.{LooksBy, IsCause}
use Rattle.ledger_acts.specs.LedgerState.{IsState}

-- The place is that of the next entry behind these, on that ledger.
pub record IsNext (opened : Opened) (entries : List Entry) (ledger : LedgerId) (place : Place)
    : Type 0 where
  pub name : ledger.name ≡ opened.name
  pub house : ledger.house ≡ opened.house
  pub acts : place.acts ≡ acts_of entries
  pub number : place.number ≡ length entries + 1

abbrev pub refusal_in : Result ℕ LedgerFault → Option LedgerFault
refusal_in (Ok at) = None
refusal_in (Err fault) = Some fault

-- The call gives the reply, and the tables then stand for the later entries.
abbrev pub Replies : Opened → List Entry → Result ℕ LedgerFault → List Entry
    → Result ℕ LedgerFault → Known → Known → Type 0
Replies opened entries reply later =
    Steps (IsState opened) of_ledger_fault (refusal_in reply) (λ at. reply ≡ Ok at) entries later

-- A call that is given an act under a key: it replies and leaves what the step says.
pub record StepsByAct (opened : Opened) (entries : List Entry) (account : Id) (q : ℕ)
    (message : List ℕ) (act : Act) (result : Result ℕ LedgerFault) (before after : Known) : Type 0
  where
    pub reply : Result ℕ LedgerFault
    pub later : List Entry
    pub step : ActSteps opened entries account q message act (used_of entries account q) reply
        later
    pub replies : Replies opened entries reply later result before after

-- The call ended for want of memory or by a failure of its keeper before it was decided, and left
-- the history as it was.
pub record IsCutShort (opened : Opened) (entries : List Entry) (result : Result ℕ LedgerFault)
    (after : Known) : Type 0 where
  pub fault : LedgerFault
  pub ended : result ≡ Err fault
  pub by : (of_ledger_fault fault ≡ failed) ⊎ (of_ledger_fault fault ≡ starved)
  pub stands : Backs (IsState opened) after.tables entries

-- The call is the ledger's step, where the tables stand for entries, the place is told where the
-- next one stands, and the map is still told behind the call.
abbrev pub ActsByStep : LedgerId → Place → Id → ℕ → List ℕ → Act → Result ℕ LedgerFault → Known
    → Known → Type 0
ActsByStep ledger place account q message act result before after =
    (opened : Opened) (entries : List Entry) → Backs (IsState opened) before.tables entries →
    IsNext opened entries ledger place → length account.0 ≡ 32 → q < 2 ^ 32 →
    act_of Ledger message ≡ Ok act → ActFits act →
    IfSome after.tables (λ _. StepsByAct opened entries account q message act result before after
    ⊎ IsCutShort opened entries result after)

-- A call that is given an envelope: it replies and leaves what the step says.
pub record StepsByEnvelope (opened : Opened) (entries : List Entry) (env : Envelope)
    (result : Result ℕ LedgerFault) (before after : Known) : Type 0 where
  pub reply : Result ℕ LedgerFault
  pub later : List Entry
  pub step : LedgerStep opened entries env reply later
  pub replies : Replies opened entries reply later result before after

-- The same of an envelope.
abbrev pub SubmitsByStep : LedgerId → Place → Envelope → Result ℕ LedgerFault → Known → Known
    → Type 0
SubmitsByStep ledger place env result before after =
    (opened : Opened) (entries : List Entry) → Backs (IsState opened) before.tables entries →
    IsNext opened entries ledger place →
    IfSome after.tables (λ _. StepsByEnvelope opened entries env result before after
    ⊎ IsCutShort opened entries result after)

-- ---- whatever the tables stand for

-- the table that a call goes through: that of deals, where an act registers one
abbrev pub through : Result Act ActFault → Option ℕ
through (Ok (Register text)) = Some deal_tab
through read = None

-- What a call leaves and names whatever its keeper tells: batches are made, or a front of them; a
-- row that is named lacks its form or fits no part of a book; and eight rows are looked up at most,
-- beside those of the table that is gone through.
pub record LeavesByRows (tab : Option ℕ) (result : Result ℕ LedgerFault) (before after : Known)
    : Type 0 where
  pub batches : List (List Change)
  pub leaves : Leaves batches (ended of_ledger_fault result) before after
  pub cause : IfErr result (IsCause after.tables)
  pub looked : LooksBy 8 tab before after

abbrev pub SubmitsByRows : Envelope → Result ℕ LedgerFault → Known → Known → Type 0
SubmitsByRows env = LeavesByRows (through (act_of Ledger env.message))
