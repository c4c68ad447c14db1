-- An act that names another ledger or house is refused before its keeper is asked.
use Rattle.std.proofs.Common.{◌≡◌, ℕ, Bool, true, false, if◌then◌else◌, List, [], Option, Some, None, Err, refl, ap, subst, ◌∙◌, arith}
use Rattle.std.specs.Option.{option_or}
use Rattle.std.specs.Str.{bytes_eq}
use Rattle.dh_base.specs.declared.id.Id.{Id}
use Rattle.dh_base.specs.Ids.{same_id}
use Rattle.act_text.specs.declared.act.Act.{Act as Asked}
use Rattle.act_text.specs.declared.act.Act.TheVariants as act
use Rattle.keeper_core.specs.declared.change.Change.{Change}
use Rattle.keeper_core.specs.Tables.{Tables}
use Rattle.keeper_core.specs.Knowing.{Known}
use Rattle.keeper_core.specs.Leaving.{refused}
use Rattle.keeper_core.specs.Stepping.{commits_unless}
use Rattle.keeper_core.proofs.Leaving.{not_asked}
use Rattle.keeper_core.proofs.Stepping.{reads_leave}
use Rattle.ledger_acts.specs.declared.ledger_fault.LedgerFault.{LedgerFault}
use Rattle.ledger_acts.specs.declared.ledger_fault.LedgerFault.TheVariants.{BadEnvelope, BadAct, KeyReused, WrongLedger, BadDeal, WrongHouse, UnknownDeal, NotAParty, DealsFull, DealSettled, WrongTurn, ZeroOrSelf, Short, LedgerFull, Store}
use Rattle.ledger_acts.specs.declared.ledger_id.LedgerId.{LedgerId}
use Rattle.ledger_acts.specs.LedgerStep.{wrong_ledger, wrong_house}
use Rattle.ledger_acts.specs.ByRows.{ByRows}
use Rattle.ledger_acts.specs.Movements.{head_refusal, headed}
use Rattle.ledger_acts.proofs.Answering.{told_always, few_looks}

-- a fault for which no keeper is asked
abbrev pub IsNamed : LedgerFault → Type 0
IsNamed (WrongLedger named) = Unit {0}
IsNamed (WrongHouse named) = Unit {0}
IsNamed fault = ⊥

named_ledger : (name named : List ℕ) (fault : LedgerFault) → wrong_ledger name named ≡ Some fault → IsNamed fault
named_ledger name named fault e = go (bytes_eq named name) e
  where
    go : (b : Bool) → (if b then None else Some (WrongLedger named)) ≡ Some fault → IsNamed fault
    go true e = absurd cc
    go false e = (let same : WrongLedger named ≡ fault = (let pair : Some (WrongLedger named) ≡ Some fault = e in cc) in subst IsNamed same tt)

named_house : (house named : Id) (fault : LedgerFault) → wrong_house house named ≡ Some fault → IsNamed fault
named_house house named fault e = go (same_id named house) e
  where
    go : (b : Bool) → (if b then None else Some (WrongHouse named)) ≡ Some fault → IsNamed fault
    go true e = absurd cc
    go false e = (let same : WrongHouse named ≡ fault = (let pair : Some (WrongHouse named) ≡ Some fault = e in cc) in subst IsNamed same tt)

head_names : (ledger : LedgerId) (asked : Asked) (fault : LedgerFault) → head_refusal ledger asked ≡ Some fault → IsNamed fault
head_names ledger (act.Pay house named to asset amount) fault e = go (wrong_ledger ledger.name named) refl e
  where
    go : (o : Option LedgerFault) → wrong_ledger ledger.name named ≡ o → option_or o (option_or (wrong_house ledger.house house) None) ≡ Some fault → IsNamed fault
    go None is e = rest (wrong_house ledger.house house) refl e
      where
        rest : (o : Option LedgerFault) → wrong_house ledger.house house ≡ o → option_or o None ≡ Some fault → IsNamed fault
        rest None is e = absurd cc
        rest (Some other) is e = named_house ledger.house house fault (is ∙ e)
    go (Some other) is e = named_ledger ledger.name named fault (is ∙ e)
head_names ledger (act.Escrow deal named asset amount) fault e = named_ledger ledger.name named fault e
head_names ledger (act.Transfer deal named turn to asset amount) fault e = named_ledger ledger.name named fault e
head_names ledger (act.Register text) fault e = absurd cc
head_names ledger (act.StartDeal text) fault e = absurd cc
head_names ledger (act.Vote deal index choice) fault e = absurd cc

module _ {A : Type 0} (rows : ℕ) (through : Option ℕ) (refusal : Tables → Option LedgerFault) (batches : Tables → List (List Change)) (IsAnswer : Tables → A → Type 0) (known : Known) where
  unasked_named : (head : Option LedgerFault) (fault : LedgerFault) → IsNamed fault → head ≡ Some fault → ByRows rows through (headed head refusal) batches IsAnswer (Err fault) known known
  unasked_named head (WrongLedger named) here is = record {
    leaves = reads_leave (commits_unless (headed head refusal) batches) refused known known (λ e. absurd cc) (not_asked refused [] known (λ e. absurd cc) (λ e. absurd cc));
    reply = told_always _ known.tables known.tables (λ tables. ap (λ (o : Option LedgerFault). option_or o (refusal tables)) is);
    cause = tt;
    looked = few_looks 0 rows through known known (omega arith) (omega arith, omega arith);
  }
  unasked_named head (WrongHouse named) here is = record {
    leaves = reads_leave (commits_unless (headed head refusal) batches) refused known known (λ e. absurd cc) (not_asked refused [] known (λ e. absurd cc) (λ e. absurd cc));
    reply = told_always _ known.tables known.tables (λ tables. ap (λ (o : Option LedgerFault). option_or o (refusal tables)) is);
    cause = tt;
    looked = few_looks 0 rows through known known (omega arith) (omega arith, omega arith);
  }
  unasked_named head (BadEnvelope fault) here is = absurd here
  unasked_named head (BadAct fault) here is = absurd here
  unasked_named head (KeyReused kept) here is = absurd here
  unasked_named head (BadDeal fault) here is = absurd here
  unasked_named head UnknownDeal here is = absurd here
  unasked_named head (NotAParty account) here is = absurd here
  unasked_named head (DealsFull held) here is = absurd here
  unasked_named head (DealSettled outcome) here is = absurd here
  unasked_named head (WrongTurn expected) here is = absurd here
  unasked_named head ZeroOrSelf here is = absurd here
  unasked_named head (Short held) here is = absurd here
  unasked_named head (LedgerFull acts) here is = absurd here
  unasked_named head (Store fault) here is = absurd here

  pub unasked : (ledger : LedgerId) (asked : Asked) (fault : LedgerFault) → head_refusal ledger asked ≡ Some fault → ByRows rows through (headed (head_refusal ledger asked) refusal) batches IsAnswer (Err fault) known known
  unasked ledger asked fault is = unasked_named (head_refusal ledger asked) fault (head_names ledger asked fault is) is
