-- How many deals of an account are open, at every history that a ledger's step reaches.
use Rattle.std.specs.Prelude.{ℕ, ◌≤◌, List, [], ◌∷◌, ◌++◌, Result}
use Rattle.dh_base.specs.declared.id.Id.{Id}
use Rattle.dh_base.specs.declared.outcome.Outcome.{Outcome}
use Rattle.key_ring.specs.declared.envelope.Envelope.{Envelope}
use Rattle.ledger_rows.specs.declared.entry.Entry.{Entry}
use Rattle.ledger_rows.specs.declared.entry.Entry.TheVariants.{Settlement}
use Rattle.ledger_rows.specs.OpenDeals.{open_deals}
use Rattle.ledger_acts.specs.declared.ledger_fault.LedgerFault.{LedgerFault}
use Rattle.ledger_acts.specs.LedgerStep.{Opened, most_deals, LedgerStep}

-- No account has more deals open than the most.
abbrev pub HasFewOpen : Opened → List Entry → Type 0
HasFewOpen opened entries =
    (account : Id) → open_deals opened.rows entries account ≤ most_deals

-- It has none at the opening, and neither a step nor the end of a deal makes them more.
pub record FewStayOpen : Type 0 where
  pub opens : (opened : Opened) → HasFewOpen opened []
  pub steps : (opened : Opened) (entries : List Entry) (env : Envelope)
      (reply : Result ℕ LedgerFault) (later : List Entry) →
      LedgerStep opened entries env reply later → HasFewOpen opened entries →
      HasFewOpen opened later
  pub ends : (opened : Opened) (entries : List Entry) (deal : Id) (outcome : Outcome) →
      HasFewOpen opened entries → HasFewOpen opened (entries ++ Settlement deal outcome ∷ [])
