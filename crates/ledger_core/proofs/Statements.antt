-- What a party of a deal is told, by the rows and by the history.
use Rattle.std.proofs.Common.{◌≡◌, ℕ, Bool, true, false, if◌then◌else◌, List, [], Option, Some, None, Result, Ok, Err, refl, sym, ap, subst, ◌∙◌}
use Rattle.std.specs.Option.{option_map}
use Rattle.dh_base.specs.declared.id.Id.{Id}
use Rattle.dh_base.specs.declared.outcome.Outcome.{Outcome}
use Rattle.escrow_book.specs.History.{History, is_in, settlement_of}
use Rattle.keeper_core.specs.declared.store_fault.StoreFault.{StoreFault}
use Rattle.keeper_core.specs.declared.store_fault.StoreFault.TheVariants as store
use Rattle.keeper_core.specs.Tables.{Tables}
use Rattle.keeper_core.specs.Knowing.{Known}
use Rattle.keeper_core.specs.Leaving.{Ended, done, failed, starved, refused, ended, of_store_fault, Leaves}
use Rattle.keeper_core.specs.Stepping.{WhereTold, IsReply, IsRefusal}
use Rattle.keeper_core.proofs.Stepping.{was_told}
use Rattle.ledger_rows.specs.declared.entry.Entry.{Entry}
use Rattle.ledger_rows.specs.declared.registration.Registration.{Registration}
use Rattle.ledger_rows.specs.Entries.{parties_in, registration_of, book_of}
use Rattle.ledger_rows.specs.RowKeys.{deal_tab, deal_key}
use Rattle.ledger_rows.specs.RowValues.{registration_in}
use Rattle.ledger_rows.specs.RowReading.{ReadsRow, form_refusal, deal_said, deal_refusal}
use Rattle.ledger_rows.proofs.DealRows.{registration_with, deal_says, deal_formed}
use Rattle.ledger_acts.specs.LedgerStep.{Opened}
use Rattle.ledger_acts.specs.LedgerState.{IsState}
use Rattle.ledger_core.specs.declared.ask_fault.AskFault.{AskFault}
use Rattle.ledger_core.specs.declared.ask_fault.AskFault.TheVariants.{UnknownDeal, NotAParty, Store}
use Rattle.ledger_core.specs.AskFaults.{of_ask_fault}
use Rattle.ledger_core.specs.Questions.{TellsBy}
use Rattle.ledger_core.specs.Statements.{TellsParty, not_a_party, statement_refusal}
use Rattle.ledger_core.proofs.Asked.{keeps_map, still_backs, told_both}
use Rattle.ledger_core.proofs.Parties.{registered_text}

-- ---- from what was read to the history

module _ {A F : Type 0} (by_fault : F → Ended) (refusal : List Entry → Option F) (IsAnswer : Opened → List Entry → A → Type 0) where
  -- what the tables say decides the reply
  pub tells_where : (Says : Tables → Type 0) (result : Result A F) (before after : Known) → Leaves [] (ended by_fault result) before after → WhereTold before after Says →
      ((opened : Opened) (entries : List Entry) (tables : Tables) → IsState opened tables entries → Says tables → IsReply by_fault (refusal entries) (IsAnswer opened entries) result) → TellsBy by_fault refusal IsAnswer result before after
  tells_where Says result before after leaves says replies opened entries stands = record {
    reply = told_both _ _ _ before.tables after.tables (was_told [] (ended by_fault result) before after leaves) says stands (λ tables is state. replies opened entries tables state is);
    same = still_backs (IsState opened) entries before.tables after.tables (keeps_map (ended by_fault result) before after leaves) stands;
  }

-- a fault of a row never comes over such tables
pub no_row_fault : (how : Ended) (one : Option StoreFault) (any : Option AskFault) (fault : StoreFault) → one ≡ None → IsRefusal how one fault → IsRefusal how any (Store fault)
no_row_fault done one any fault none is = is
no_row_fault failed one any fault none is = tt
no_row_fault starved one any fault none is = tt
no_row_fault refused one any fault none is = let clash : None ≡ Some fault = sym none ∙ is in absurd cc

-- ---- the deal of the party

module _ (deal party : Id) where
  abbrev pub IsSettled : Opened → List Entry → Option Outcome → Type 0
  IsSettled opened entries settled = settled ≡ settlement_of (book_of opened.rows entries) deal

  abbrev pub SettledTold : Result (Option Outcome) AskFault → Known → Known → Type 0
  SettledTold = TellsBy of_ask_fault (statement_refusal deal party) IsSettled

  abbrev pub Read : Result (Option Registration) StoreFault → Known → Known → Type 0
  Read result before after = ReadsRow registration_in deal_tab (deal_key deal) result before after

  pub deal_unread : (fault : StoreFault) (before after : Known) → Read (Err fault) before after → SettledTold (Err (Store fault)) before after
  deal_unread fault before after read =
      tells_where of_ask_fault (statement_refusal deal party) IsSettled (λ tables. IsRefusal (of_store_fault fault) (deal_refusal deal tables) fault) (Err (Store fault)) before after read.leaves read.reply
      (λ opened entries tables state is. no_row_fault (of_store_fault fault) (deal_refusal deal tables) (statement_refusal deal party entries) fault (deal_formed tables opened.rows entries deal state.stands state.fits) is)

  said_some : (book : History) (o : Option (Id × List ℕ)) (registration : Registration) → Some (option_map (registration_with book deal) o) ≡ Some (Some registration) → (by : Id × List ℕ) × (o ≡ Some by) × (registration_with book deal by ≡ registration)
  said_some book None registration e = absurd cc
  said_some book (Some by) registration e = (by, refl, cc)

  said_none : (book : History) (o : Option (Id × List ℕ)) → Some (option_map (registration_with book deal) o) ≡ Some None → o ≡ None
  said_none book None e = refl
  said_none book (Some by) e = absurd cc

  module _ (opened : Opened) (entries : List Entry) (tables : Tables) (state : IsState opened tables entries) where
    abbrev book : History
    book = book_of opened.rows entries

    says : deal_said deal tables ≡ Some (option_map (registration_with book deal) (registration_of entries deal))
    says = deal_says tables opened.rows entries deal state.stands state.fits

    unknown_here : deal_said deal tables ≡ Some None → statement_refusal deal party entries ≡ Some UnknownDeal
    unknown_here none = ap (not_a_party party) (said_none book (registration_of entries deal) (sym says ∙ none))

    module _ (registration : Registration) (is : deal_said deal tables ≡ Some (Some registration)) (here : Bool) (tells : TellsParty registration.text party here) where
      refusal_is : (b : Bool) → here ≡ b → statement_refusal deal party entries ≡ (if b then None else Some (NotAParty party))
      refusal_is b here_is =
          let by = said_some book (registration_of entries deal) registration (sym says ∙ is) in
          let text : registration.text ≡ by.0.1 = ap (λ (r : Registration). r.text) (sym by.2) in
          let deal_text = registered_text entries deal by.0 state.deals by.1 in
          let told : here ≡ is_in party (parties_in by.0.1) = subst (λ (t : List ℕ). TellsParty t party here) text tells deal_text.0 deal_text.1 in
          ap (not_a_party party) by.1 ∙ ap (λ (b : Bool). if b then None else Some (NotAParty party)) (sym told ∙ here_is)

      settled_is : registration.settled ≡ settlement_of book deal
      settled_is =
          let by = said_some book (registration_of entries deal) registration (sym says ∙ is) in
          ap (λ (r : Registration). r.settled) (sym by.2)

  module _ (before after : Known) where
    abbrev pub Said : Option Registration → Tables → Type 0
    Said row tables = (form_refusal deal_tab (deal_key deal) (deal_said deal tables) ≡ None) × (deal_said deal tables ≡ Some row)

    pub deal_unknown : Leaves [] refused before after → Read (Ok None) before after → SettledTold (Err UnknownDeal) before after
    deal_unknown leaves read =
        tells_where of_ask_fault (statement_refusal deal party) IsSettled (Said None) (Err UnknownDeal) before after leaves read.reply
        (λ opened entries tables state is. unknown_here opened entries tables state is.1)

    pub not_told : (registration : Registration) → Leaves [] starved before after → Read (Ok (Some registration)) before after → SettledTold (Err (Store store.NoMemory)) before after
    not_told registration leaves read =
        tells_where of_ask_fault (statement_refusal deal party) IsSettled (Said (Some registration)) (Err (Store store.NoMemory)) before after leaves read.reply (λ opened entries tables state is. tt)

    pub no_party : (registration : Registration) → TellsParty registration.text party false → Leaves [] refused before after → Read (Ok (Some registration)) before after → SettledTold (Err (NotAParty party)) before after
    no_party registration tells leaves read =
        tells_where of_ask_fault (statement_refusal deal party) IsSettled (Said (Some registration)) (Err (NotAParty party)) before after leaves read.reply
        (λ opened entries tables state is. refusal_is opened entries tables state registration is.1 false tells false refl)

    pub its_party : (registration : Registration) → TellsParty registration.text party true → Read (Ok (Some registration)) before after → SettledTold (Ok registration.settled) before after
    its_party registration tells read =
        tells_where of_ask_fault (statement_refusal deal party) IsSettled (Said (Some registration)) (Ok registration.settled) before after read.leaves read.reply
        (λ opened entries tables state is. (refusal_is opened entries tables state registration is.1 true tells true refl, settled_is opened entries tables state registration is.1 true tells))
