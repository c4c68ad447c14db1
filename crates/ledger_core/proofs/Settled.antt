-- How a deal has ended, by its row and by the history.
use Rattle.std.proofs.Common.{◌≡◌, if◌then◌else◌, List, Option, Some, None, is_some, Result, refl, sym, ap, ◌∙◌, ℕ}
use Rattle.std.specs.Option.{option_map, option_or}
use Rattle.dh_base.specs.declared.id.Id.{Id}
use Rattle.dh_base.specs.declared.outcome.Outcome.{Outcome}
use Rattle.escrow_book.specs.History.{History, settlement_of}
use Rattle.keeper_core.specs.Tables.{Tables}
use Rattle.keeper_core.specs.Knowing.{Known}
use Rattle.ledger_rows.specs.declared.entry.Entry.{Entry}
use Rattle.ledger_rows.specs.Asking.{Asks}
use Rattle.ledger_rows.specs.Entries.{registration_of, book_of}
use Rattle.ledger_rows.specs.RowReading.{deal_said, deal_refusal}
use Rattle.ledger_rows.proofs.DealRows.{registration_with, deal_says, deal_formed}
use Rattle.ledger_acts.specs.LedgerStep.{Opened}
use Rattle.ledger_acts.specs.LedgerState.{IsState}
use Rattle.ledger_core.specs.declared.ask_fault.AskFault.{AskFault}
use Rattle.ledger_core.specs.declared.ask_fault.AskFault.TheVariants.{UnknownDeal, Store}
use Rattle.ledger_core.specs.AskFaults.{of_ask_fault}
use Rattle.ledger_core.specs.Questions.{TellsBy, unknown_deal, is_unknown, settlement_refusal, outcome_of}
use Rattle.ledger_core.proofs.Asked.{tells}

-- ---- by the history

module _ (deal : Id) (opened : Opened) (entries : List Entry) (tables : Tables) (state : IsState opened tables entries) where
  abbrev book : History
  book = book_of opened.rows entries

  says : deal_said deal tables ≡ Some (option_map (registration_with book deal) (registration_of entries deal))
  says = deal_says tables opened.rows entries deal state.stands state.fits

  formed : deal_refusal deal tables ≡ None
  formed = deal_formed tables opened.rows entries deal state.stands state.fits

  pub settlement_agrees : settlement_refusal deal tables ≡ unknown_deal deal entries
  settlement_agrees = (λ i. option_or (option_map Store (formed i)) (is_unknown (says i))) ∙ go (registration_of entries deal)
    where
      go : (o : Option (Id × List ℕ)) → is_unknown (Some (option_map (registration_with book deal) o)) ≡ (if is_some o then None else Some UnknownDeal)
      go None = refl
      go (Some by) = refl

  pub settlement_answers : (outcome : Option Outcome) → settlement_refusal deal tables ≡ None → outcome ≡ outcome_of (deal_said deal tables) → outcome ≡ settlement_of book deal
  settlement_answers outcome none is = is ∙ ap outcome_of says ∙ go (registration_of entries deal) (sym settlement_agrees ∙ none)
    where
      go : (o : Option (Id × List ℕ)) → (if is_some o then None else Some UnknownDeal) ≡ None → outcome_of (Some (option_map (registration_with book deal) o)) ≡ settlement_of book deal
      go None some = absurd cc
      go (Some by) some = refl

pub settlement_tells : (deal : Id) (result : Result (Option Outcome) AskFault) (before after : Known) → Asks of_ask_fault (λ tables. 1) (settlement_refusal deal) (λ tables outcome. outcome ≡ outcome_of (deal_said deal tables)) result before after →
    TellsBy of_ask_fault (unknown_deal deal) (λ opened entries settled. settled ≡ settlement_of (book_of opened.rows entries) deal) result before after
settlement_tells deal = tells of_ask_fault (λ tables. 1) (settlement_refusal deal) (λ tables outcome. outcome ≡ outcome_of (deal_said deal tables)) (unknown_deal deal) (λ opened entries settled. settled ≡ settlement_of (book_of opened.rows entries) deal)
    (settlement_agrees deal) (λ opened entries tables outcome state none is. settlement_answers deal opened entries tables state outcome none is)
