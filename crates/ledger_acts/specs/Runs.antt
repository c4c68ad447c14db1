-- What a ledger replies to a list of envelopes, one after another.
use Rattle.std.specs.Prelude.{ℕ, ◌≡◌, ◌⊎◌, List, [], ◌∷◌, Result, Ok, Err}
use Rattle.std.specs.List.{AllByRecursion}
use Rattle.dh_base.specs.declared.id.Id.{Id}
use Rattle.act_text.specs.declared.act_fault.ActFault.{ActFault}
use Rattle.key_ring.specs.declared.envelope.Envelope.{Envelope}
use Rattle.key_ring.specs.Saying.{Says}
use Rattle.ledger_rows.specs.declared.entry.Entry.{Entry}
use Rattle.ledger_rows.specs.Entries.{digest_of}
use Rattle.ledger_acts.specs.declared.ledger_fault.LedgerFault.{LedgerFault}
use Rattle.ledger_acts.specs.declared.ledger_fault.LedgerFault.TheVariants.{BadAct}
use Rattle.ledger_acts.specs.LedgerStep.{Opened, kept_reply, LedgerStep}

-- An envelope and what is replied to it.
pub record Request : Type 0 where
  pub env : Envelope
  pub reply : Result ℕ LedgerFault

-- Each request is a step of the ledger, from the entries behind those before it.
abbrev pub IsRun : Opened → List Entry → List Request → List Entry → Type 0
IsRun opened entries [] later = later ≡ entries
IsRun opened entries (request ∷ requests) later =
    (next : List Entry) × LedgerStep opened entries request.env request.reply next
    × IsRun opened next requests later

-- A request under that key of the account is replied by what was accepted under it: the same
-- message by the same number, and another one by the digest of the first. A message that is no act
-- is refused before the key is looked at.
abbrev pub IsKept : Id → ℕ → ℕ → Id → Request → Type 0
IsKept account q number message request =
    Says request.env account.0 q request.env.message →
    (request.reply
    ≡ kept_reply (record { at = number; message = message }) (digest_of request.env.message))
    ⊎ ((fault : ActFault) × (request.reply ≡ Err (BadAct fault)))

-- An account and a key number have one accepted message at most, whatever is asked, and the same
-- reply each time.
abbrev pub OneMessageAKey : Type 0
OneMessageAKey = (opened : Opened) (entries later : List Entry) (first : Request)
    (requests : List Request) (account : Id) (q number : ℕ) →
    IsRun opened entries (first ∷ requests) later →
    Says first.env account.0 q first.env.message → first.reply ≡ Ok number →
    AllByRecursion (IsKept account q number (digest_of first.env.message)) requests
