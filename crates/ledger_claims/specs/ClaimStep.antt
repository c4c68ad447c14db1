-- The step of a ledger for a claim: what it replies by its history, and the history behind it.
use Rattle.std.specs.Prelude.{ℕ, ◌≡◌, List, [], ◌∷◌, ◌++◌, length, Option, Some, None, Result, Ok, Err}
use Rattle.std.specs.Option.{option_map}
use Rattle.dh_base.specs.declared.id.Id.{Id}
use Rattle.dh_base.specs.declared.outcome.Outcome.{Outcome}
use Rattle.cert_core.specs.Sets.{SetTold}
use Rattle.claim_core.specs.declared.certificate.Certified.{Certified}
use Rattle.claim_core.specs.declared.claim.Claim.{Claim}
use Rattle.claim_core.specs.declared.claim_fault.ClaimFault.{ClaimFault}
use Rattle.claim_core.specs.FirstBroken.{certified_of}
use Rattle.escrow_book.specs.History.{settlement_of}
use Rattle.ledger_rows.specs.declared.entry.Entry.{Entry}
use Rattle.ledger_rows.specs.declared.entry.Entry.TheVariants.{Settlement}
use Rattle.ledger_rows.specs.Entries.{registration_of, book_of}
use Rattle.ledger_acts.specs.LedgerStep.{Opened}
use Rattle.vote_log.specs.declared.decision.Decision.{Decision}
use Rattle.vote_log.specs.Deciding.{outcome_of}
use Rattle.ledger_claims.specs.declared.claim_reply.ClaimReply.{ClaimReply}
use Rattle.ledger_claims.specs.declared.claim_reply.ClaimReply.TheVariants.{Settled, Already}
use Rattle.ledger_claims.specs.declared.show_fault.ShowFault.{ShowFault}
use Rattle.ledger_claims.specs.declared.show_fault.ShowFault.TheVariants.{UnknownDeal, BadClaim, Undecided}

-- ---- by the certificate

-- what a certificate of so many records decides
abbrev pub decided : Result Certified ClaimFault → ℕ → Option Decision → Result Outcome ShowFault
decided (Err fault) len decision = Err (BadClaim fault)
decided (Ok told) len None = Err (Undecided len)
decided (Ok told) len (Some decision) = Ok decision.outcome

-- what the claim decides of the deal, or the first reason why it decides nothing
abbrev pub decided_by : SetTold → Id → Claim → Result Outcome ShowFault
decided_by genesis deal claim =
    decided (certified_of genesis claim) (length claim.recs) (outcome_of claim.recs deal)

-- ---- by the history

-- how the deal has ended, if it has, where it is registered
abbrev pub standing_of : Opened → List Entry → Id → Option (Option Outcome)
standing_of opened entries deal =
    option_map (λ (by : Id × List ℕ). settlement_of (book_of opened.rows entries) deal)
    (registration_of entries deal)

-- A deal that has ended is looked at no more, whatever the claim is.
abbrev pub reply_by : Option (Option Outcome) → Result Outcome ShowFault
    → Result ClaimReply ShowFault
reply_by None by_claim = Err UnknownDeal
reply_by (Some (Some outcome)) by_claim = Ok (Already outcome)
reply_by (Some None) (Ok outcome) = Ok (Settled outcome)
reply_by (Some None) (Err fault) = Err fault

-- a settlement is the next entry
abbrev pub entries_with : List Entry → Id → Result ClaimReply ShowFault → List Entry
entries_with entries deal (Ok (Settled outcome)) = entries ++ Settlement deal outcome ∷ []
entries_with entries deal reply = entries

-- The ledger's step: what a claim on a deal is answered, and the entries behind it.
pub record ClaimStep (genesis : SetTold) (opened : Opened) (entries : List Entry) (deal : Id)
    (claim : Claim) (reply : Result ClaimReply ShowFault) (later : List Entry) : Type 0 where
  pub replies : reply ≡ reply_by (standing_of opened entries deal) (decided_by genesis deal claim)
  pub behind : later ≡ entries_with entries deal reply
