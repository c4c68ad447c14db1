-- A claim over a keeper: by the tables, and by the history that they stand for.
use Rattle.std.specs.Prelude.{ℕ, ◌≡◌, ◌⊎◌, ◌+◌, List, [], length, Option, Some, None, Result, Ok, Err}
use Rattle.std.specs.Option.{option_map, option_or}
use Rattle.dh_base.specs.declared.id.Id.{Id}
use Rattle.dh_base.specs.declared.outcome.Outcome.{Outcome}
use Rattle.cert_core.specs.Sets.{SetTold}
use Rattle.claim_core.specs.declared.claim.Claim.{Claim}
use Rattle.claim_core.specs.Certificates.{Certifies}
use Rattle.keeper_core.specs.declared.change.Change.{Change}
use Rattle.keeper_core.specs.declared.store_fault.StoreFault.{StoreFault}
use Rattle.keeper_core.specs.Tables.{Tables}
use Rattle.keeper_core.specs.Knowing.{Known}
use Rattle.keeper_core.specs.Leaving.{failed, starved}
use Rattle.keeper_core.specs.Stepping.{WhereTold, Backs, Steps}
use Rattle.ledger_rows.specs.declared.entry.Entry.{Entry}
use Rattle.ledger_rows.specs.declared.registration.Registration.{Registration}
use Rattle.ledger_rows.specs.RowReading.{deal_said, deal_refusal}
use Rattle.ledger_acts.specs.LedgerStep.{Opened}
use Rattle.ledger_acts.specs.LedgerState.{IsState}
use Rattle.vote_log.specs.declared.decision.Decision.{Decision}
use Rattle.vote_log.specs.Deciding.{outcome_of}
use Rattle.ledger_claims.specs.declared.claim_reply.ClaimReply.{ClaimReply}
use Rattle.ledger_claims.specs.declared.claim_reply.ClaimReply.TheVariants.{Settled}
use Rattle.ledger_claims.specs.declared.show_fault.ShowFault.{ShowFault}
use Rattle.ledger_claims.specs.declared.show_fault.ShowFault.TheVariants.{UnknownDeal, Store}
use Rattle.ledger_claims.specs.ByTables.{Commits, ShowCause}
use Rattle.ledger_claims.specs.ClaimStep.{decided_by, reply_by, standing_of, ClaimStep}
use Rattle.ledger_claims.specs.Payees.{beside_twice}
use Rattle.ledger_claims.specs.Settling.{settling_refusal, settling_batches}
use Rattle.ledger_claims.specs.ShowFaults.{of_show_fault}

-- ---- by the tables

-- the refusal of a claim on an open deal
abbrev pub open_refusal : Result Outcome ShowFault → Option StoreFault → Option ShowFault
open_refusal (Err fault) settling = Some fault
open_refusal (Ok outcome) settling = option_map Store settling

-- what is committed by it
abbrev pub open_batches : Result Outcome ShowFault → (Outcome → List (List Change))
    → List (List Change)
open_batches (Err fault) settling = []
open_batches (Ok outcome) settling = settling outcome

abbrev pub ended_or : Option Outcome → Option ShowFault → Option ShowFault
ended_or (Some outcome) refusal = None
ended_or None refusal = refusal

abbrev pub none_or : Option Outcome → List (List Change) → List (List Change)
none_or (Some outcome) batches = []
none_or None batches = batches

-- by what the row of the deal says
abbrev pub said_refusal : Id → Result Outcome ShowFault → Tables → Option (Option Registration)
    → Option ShowFault
said_refusal deal by_claim tables None = None
said_refusal deal by_claim tables (Some None) = Some UnknownDeal
said_refusal deal by_claim tables (Some (Some found)) =
    ended_or found.settled (open_refusal by_claim (settling_refusal deal found tables))

abbrev pub said_batches : ℕ → Id → Result Outcome ShowFault → Tables
    → Option (Option Registration) → List (List Change)
said_batches number deal by_claim tables (Some (Some found)) =
    none_or found.settled
    (open_batches by_claim (λ outcome. settling_batches number deal found outcome tables))
said_batches number deal by_claim tables said = []

abbrev pub claim_refusal : Id → Result Outcome ShowFault → Tables → Option ShowFault
claim_refusal deal by_claim tables =
    option_or (option_map Store (deal_refusal deal tables))
    (said_refusal deal by_claim tables (deal_said deal tables))

abbrev pub claim_batches : ℕ → Id → Result Outcome ShowFault → Tables → List (List Change)
claim_batches number deal by_claim tables =
    said_batches number deal by_claim tables (deal_said deal tables)

-- how the deal has ended, by its row
abbrev pub standing_said : Option (Option Registration) → Option (Option Outcome)
standing_said None = None
standing_said (Some found) = option_map (λ (deal : Registration). deal.settled) found

abbrev pub IsClaimAnswer : Id → Result Outcome ShowFault → Tables → ClaimReply → Type 0
IsClaimAnswer deal by_claim tables answer =
    Ok answer ≡ reply_by (standing_said (deal_said deal tables)) by_claim

-- The claim on the deal is answered by the rows, where a settlement is the entry of that number.
abbrev pub ClaimsByRows : SetTold → ℕ → Id → Claim → Result ClaimReply ShowFault → Known → Known
    → Type 0
ClaimsByRows genesis number deal claim =
    let by_claim = decided_by genesis deal claim in
    Commits of_show_fault ShowCause (beside_twice 8) (claim_refusal deal by_claim)
    (claim_batches number deal by_claim) (IsClaimAnswer deal by_claim)

-- ---- by the history

abbrev pub refusal_in : Result ClaimReply ShowFault → Option ShowFault
refusal_in (Ok answer) = None
refusal_in (Err fault) = Some fault

-- A call that is given a claim: it replies and leaves what the step says.
pub record StepsByClaim (genesis : SetTold) (opened : Opened) (entries : List Entry) (deal : Id)
    (claim : Claim) (result : Result ClaimReply ShowFault) (before after : Known) : Type 0 where
  pub reply : Result ClaimReply ShowFault
  pub later : List Entry
  pub step : ClaimStep genesis opened entries deal claim reply later
  pub replies : Steps (IsState opened) of_show_fault (refusal_in reply)
      (λ answer. reply ≡ Ok answer) entries later result before after

-- The call is the ledger's step, where the tables stand for entries, and the number is that of the
-- next one.
abbrev pub ClaimsByStep : SetTold → ℕ → Id → Claim → Result ClaimReply ShowFault → Known → Known
    → Type 0
ClaimsByStep genesis number deal claim result before after =
    (opened : Opened) (entries : List Entry) → Backs (IsState opened) before.tables entries →
    number ≡ length entries + 1 → length deal.0 ≡ 32 →
    StepsByClaim genesis opened entries deal claim result before after

-- ---- acceptance

-- The claim certifies records that decide an open deal so.
pub record Decides (genesis : SetTold) (opened : Opened) (entries : List Entry) (deal : Id)
    (claim : Claim) (decision : Decision) : Type 0 where
  pub is_open : standing_of opened entries deal ≡ Some None
  pub set : SetTold
  pub certifies : Certifies genesis claim set
  pub outcome : outcome_of claim.recs deal ≡ Some decision

-- the deal is settled so, if the keeper doesn't fail the call and there is memory
abbrev pub IsSettledBy : Outcome → Result ClaimReply ShowFault → Type 0
IsSettledBy outcome (Ok answer) = answer ≡ Settled outcome
IsSettledBy outcome (Err fault) = (of_show_fault fault ≡ failed) ⊎ (of_show_fault fault ≡ starved)

-- A claim that certifies records in which an open deal is decided settles it so.
abbrev pub AcceptsClaim : SetTold → Id → Claim → Result ClaimReply ShowFault → Known → Known
    → Type 0
AcceptsClaim genesis deal claim result before after =
    (opened : Opened) (entries : List Entry) (decision : Decision) →
    Backs (IsState opened) before.tables entries → length deal.0 ≡ 32 →
    Decides genesis opened entries deal claim decision →
    WhereTold before after (λ tables. IsSettledBy decision.outcome result)
