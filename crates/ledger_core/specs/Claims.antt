-- What a ledger replies to a claim, and where it then stands.
use Rattle.std.specs.Prelude.{ℕ, ◌+◌, ◌-◌, ◌^◌, min, List, OnOk, Result}
use Rattle.dh_base.specs.declared.id.Id.{Id}
use Rattle.claim_core.specs.declared.claim.Claim.{Claim}
use Rattle.keeper_core.specs.Knowing.{Known}
use Rattle.keeper_core.specs.Stepping.{WhereTold, Backs}
use Rattle.ledger_rows.specs.declared.entry.Entry.{Entry}
use Rattle.ledger_acts.specs.LedgerStep.{Opened}
use Rattle.ledger_acts.specs.LedgerState.{IsState}
use Rattle.ledger_claims.specs.declared.claim_reply.ClaimReply.{ClaimReply}
use Rattle.ledger_claims.specs.declared.claim_reply.ClaimReply.TheVariants.{Settled, Already}
use Rattle.ledger_claims.specs.declared.show_fault.ShowFault.{ShowFault}
use Rattle.ledger_claims.specs.Claiming.{StepsByClaim}
use Rattle.ledger_core.specs.Ledgers.{LedgerTold, IsAt}

-- the number of the next entry, which stays at the greatest that is counted
abbrev pub next_number : {K : Type 0} → LedgerTold K → ℕ
next_number ledger = min (ledger.entries + 1) (2 ^ 64 - 1)

-- a settlement is one entry more
abbrev pub with_reply : {K : Type 0} → LedgerTold K → ClaimReply → LedgerTold K
with_reply ledger (Settled outcome) = record ledger { entries = next_number ledger }
with_reply ledger (Already outcome) = ledger

-- The call is the ledger's step, and the ledger is then at the later entries.
pub record StepsFromClaim {K : Type 0} (opened : Opened) (entries : List Entry)
    (old now : LedgerTold K) (deal : Id) (claim : Claim) (result : Result ClaimReply ShowFault)
    (before after : Known) : Type 0 where
  pub steps : StepsByClaim old.genesis opened entries deal claim result before after
  pub moved : OnOk result (IsAt opened steps.later now)

-- Where the tables stand for entries and the ledger is at them, and the map is told before and
-- behind the call.
abbrev pub ClaimsFrom : {K : Type 0} → LedgerTold K → LedgerTold K → Id → Claim
    → Result ClaimReply ShowFault → Known → Known → Type 0
ClaimsFrom old now deal claim result before after =
    (opened : Opened) (entries : List Entry) → Backs (IsState opened) before.tables entries →
    IsAt opened entries old →
    WhereTold before after (λ tables.
    StepsFromClaim opened entries old now deal claim result before after)
