-- What a ledger replies to an envelope, and where it then stands.
use Rattle.std.specs.Prelude.{ℕ, ◌⊎◌, List, OnOk, Result, Ok, Err}
use Rattle.keeper_core.specs.Knowing.{Known}
use Rattle.keeper_core.specs.Stepping.{WhereTold, Backs}
use Rattle.key_ring.specs.declared.envelope.Envelope.{Envelope}
use Rattle.ledger_rows.specs.declared.entry.Entry.{Entry}
use Rattle.ledger_acts.specs.declared.ledger_fault.LedgerFault.{LedgerFault}
use Rattle.ledger_acts.specs.LedgerStep.{Opened, LedgerStep}
use Rattle.ledger_acts.specs.LedgerState.{IsState}
use Rattle.ledger_acts.specs.Steps.{Replies, IsCutShort}
use Rattle.ledger_core.specs.declared.act_reply.ActReply.{ActReply}
use Rattle.ledger_core.specs.declared.act_reply.ActReply.TheVariants.{Done}
use Rattle.ledger_core.specs.Ledgers.{LedgerTold, IsAt}

-- the number of the entry
abbrev pub number_in : Result ActReply LedgerFault → Result ℕ LedgerFault
number_in (Ok (Done at)) = Ok at
number_in (Err fault) = Err fault

-- The call is the ledger's step, and the ledger is then at the later entries.
pub record StepsFrom {K : Type 0} (opened : Opened) (entries : List Entry) (now : LedgerTold K)
    (env : Envelope) (result : Result ActReply LedgerFault) (before after : Known) : Type 0 where
  pub reply : Result ℕ LedgerFault
  pub later : List Entry
  pub step : LedgerStep opened entries env reply later
  pub replies : Replies opened entries reply later (number_in result) before after
  pub moved : OnOk result (IsAt opened later now)

-- Where the tables stand for entries and the ledger is at them, and the map is told before and
-- behind the call.
abbrev pub SubmitsFrom : {K : Type 0} → LedgerTold K → LedgerTold K → Envelope
    → Result ActReply LedgerFault → Known → Known → Type 0
SubmitsFrom old now env result before after =
    (opened : Opened) (entries : List Entry) → Backs (IsState opened) before.tables entries →
    IsAt opened entries old →
    WhereTold before after (λ tables. StepsFrom opened entries now env result before after
    ⊎ IsCutShort opened entries (number_in result) after)
