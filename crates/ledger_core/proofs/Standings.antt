-- A statement is made of what a party has and how its deal has ended.
use Rattle.std.proofs.Common.{◌≡◌, List, [], length, Option, Some, None, IfSome, IsSome, Ok, Err, refl}
use Rattle.dh_base.specs.declared.id.Id.{Id}
use Rattle.dh_base.specs.declared.outcome.Outcome.{Outcome}
use Rattle.keeper_core.specs.declared.store_fault.StoreFault.{StoreFault}
use Rattle.keeper_core.specs.Tables.{Tables}
use Rattle.keeper_core.specs.Knowing.{Known}
use Rattle.keeper_core.specs.Leaving.{Ended, done, of_store_fault, Leaves}
use Rattle.keeper_core.proofs.Leaving.{if_some}
use Rattle.keeper_core.proofs.Stepping.{was_told}
use Rattle.ledger_rows.specs.declared.entry.Entry.{Entry}
use Rattle.ledger_rows.specs.Entries.{book_of}
use Rattle.ledger_acts.specs.LedgerStep.{Opened}
use Rattle.ledger_core.specs.declared.ask_fault.AskFault.TheVariants.{Store}
use Rattle.ledger_core.specs.declared.asking.Owned.{Owned}
use Rattle.ledger_core.specs.declared.asking.Standing.{Standing}
use Rattle.ledger_core.specs.AskFaults.{of_ask_fault}
use Rattle.ledger_core.specs.Questions.{TellsBy}
use Rattle.ledger_core.specs.Statements.{statement_refusal, IsStanding}
use Rattle.ledger_core.proofs.Owning.{Told}
use Rattle.ledger_core.proofs.Statements.{SettledTold, no_row_fault}

-- a fault is the same, whatever is asked for
pub tells_refused : {A B F : Type 0} (by_fault : F → Ended) (refusal : List Entry → Option F) (P : Opened → List Entry → A → Type 0) (Q : Opened → List Entry → B → Type 0) (fault : F) (before after : Known) → TellsBy by_fault refusal P (Err fault) before after →
    TellsBy by_fault refusal Q (Err fault) before after
tells_refused by_fault refusal P Q fault before after tells opened entries stands = record { reply = (tells opened entries stands).reply; same = (tells opened entries stands).same }

-- what is made of an answer
pub tells_on : {A B F : Type 0} (by_fault : F → Ended) (refusal : List Entry → Option F) (P : Opened → List Entry → A → Type 0) (Q : Opened → List Entry → B → Type 0) (x : A) (y : B) (before after : Known) → ((opened : Opened) (entries : List Entry) → P opened entries x → Q opened entries y) →
    TellsBy by_fault refusal P (Ok x) before after → TellsBy by_fault refusal Q (Ok y) before after
tells_on by_fault refusal P Q x y before after on tells opened entries stands = record {
  reply = if_some after.tables _ _ (λ tables is. (is.0, on opened entries is.1)) (tells opened entries stands).reply;
  same = (tells opened entries stands).same;
}

told_two : (X Y Z : Type 0) (mid after : Option Tables) → IfSome after (λ _. IsSome mid) → IfSome mid (λ _. X) → IfSome after (λ _. Y) → (X → Y → Z) → IfSome after (λ _. Z)
told_two X Y Z mid None told x y both = tt
told_two X Y Z None (Some later) told x y both = absurd cc
told_two X Y Z (Some tables) (Some later) told x y both = both x y

module _ (deal party : Id) (wide : length deal.0 ≡ 32) (wide' : length party.0 ≡ 32) (settled : Option Outcome) (before mid after : Known) (first : SettledTold deal party (Ok settled) before mid) where
  abbrev pub Stands : Opened → List Entry → Standing → Type 0
  Stands opened entries = IsStanding (book_of opened.rows entries) deal party

  pub owned_refused : (fault : StoreFault) → Told deal party wide wide' (Err fault) mid after → TellsBy of_ask_fault (statement_refusal deal party) Stands (Err (Store fault)) before after
  owned_refused fault second opened entries stands =
      let one = first opened entries stands in
      let two = second opened entries one.same in
      record {
        reply = if_some after.tables _ _ (λ tables is. no_row_fault (of_store_fault fault) None (statement_refusal deal party entries) fault refl is) two.reply;
        same = two.same;
      }

  pub standing : (owned : Owned) → Leaves [] done mid after → Told deal party wide wide' (Ok owned) mid after → TellsBy of_ask_fault (statement_refusal deal party) Stands (Ok (record { settled = settled; owned = owned })) before after
  standing owned leaves second opened entries stands =
      let one = first opened entries stands in
      let two = second opened entries one.same in
      record {
        reply = told_two _ _ _ mid.tables after.tables (was_told [] done mid after leaves) one.reply two.reply (λ settled_is owned_is. (settled_is.0, record { settled = settled_is.1; owned = owned_is.1 }));
        same = two.same;
      }
