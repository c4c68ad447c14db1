-- A registration by its text and the rows: what each of its endings answers and leaves.
use Rattle.std.proofs.Common.{◌≡◌, ℕ, nat_le, Bool, true, false, if◌then◌else◌, [], Option, Some, None, is_some, Result, Ok, Err, refl, sym, ap, subst, arith}
use Rattle.std.specs.Option.{option_or}
use Rattle.dh_base.specs.declared.id.Id.{Id}
use Rattle.dh_base.specs.Ids.{same_id}
use Rattle.deal_core.specs.declared.deal_fault.DealFault.{DealFault}
use Rattle.deal_core.specs.declared.deal_fault.DealFault.TheVariants as deal
use Rattle.deal_core.specs.Deals.{DealTold, index_of_account}
use Rattle.keeper_core.specs.declared.row.Row.{Row}
use Rattle.keeper_core.specs.declared.store_fault.StoreFault.{StoreFault}
use Rattle.keeper_core.specs.declared.store_fault.StoreFault.TheVariants as store
use Rattle.keeper_core.specs.Knowing.{Known}
use Rattle.keeper_core.specs.Leaving.{Ended, done, failed, starved, refused}
use Rattle.keeper_core.specs.Stepping.{IsRefusal, commits_unless}
use Rattle.keeper_core.specs.Tables.{Tables}
use Rattle.keeper_core.proofs.Leaving.{not_asked}
use Rattle.keeper_core.proofs.Stepping.{reads_leave}
use Rattle.ledger_rows.specs.RowKeys.{deal_tab}
use Rattle.ledger_rows.specs.RowReading.{Reads, ReadsTable}
use Rattle.ledger_acts.specs.declared.ledger_fault.LedgerFault.{LedgerFault}
use Rattle.ledger_acts.specs.declared.ledger_fault.LedgerFault.TheVariants.{WrongHouse, NotAParty, DealsFull, LedgerFull, Store}
use Rattle.ledger_acts.specs.LedgerFaults.{of_ledger_fault, ledger_fault_of_deal}
use Rattle.ledger_acts.specs.LedgerStep.{most_acts, most_deals, full, text_refusal}
use Rattle.ledger_acts.specs.ByRows.{IsRefusedBy, FitsNoPart, ByRows, RowAct, act_refusal, act_batches, ActsByRows}
use Rattle.ledger_acts.specs.Registering.{told_open, room_fault, registration_refusal}
use Rattle.ledger_acts.proofs.Answering.{by_rule, never_done, rule_cause, told_always}

-- ---- what is read

-- a bound on look-ups that holds of every reading
pub as_reads : {A : Type 0} (rows tab : ℕ) (said : Tables → Option A) (refusal : Tables → Option StoreFault) (L : ℕ → Row → Type 0) (result : Result A StoreFault) (before after : Known) → ReadsTable rows tab said refusal L result before after → Reads after.looked said refusal L result before after
as_reads rows tab said refusal L result before after r = record {
  reply = r.reply;
  cause = r.cause;
  leaves = r.leaves;
  looked = (r.looked.0, omega arith);
}

-- ---- no rule names a row

full_names_none : (acts tab : ℕ) (key : Id) → full acts ≡ Some (Store (store.BadRow tab key)) → ⊥
full_names_none acts tab key e = go (nat_le most_acts acts) e
  where
    go : (b : Bool) → (if b then Some (LedgerFull most_acts) else None) ≡ Some (Store (store.BadRow tab key)) → ⊥
    go true is = absurd cc
    go false is = absurd cc

pub room_names_none : (acts : ℕ) (room : Option ℕ) (tab : ℕ) (key : Id) → room_fault acts room ≡ Some (Store (store.BadRow tab key)) → FitsNoPart tab key
room_names_none acts None tab key e = absurd (full_names_none acts tab key e)
room_names_none acts (Some held) tab key e = absurd (go (nat_le most_deals (told_open held)) e)
  where
    or_full : (o : Option LedgerFault) → (o ≡ Some (Store (store.BadRow tab key)) → ⊥) → option_or o None ≡ Some (Store (store.BadRow tab key)) → ⊥
    or_full None never is = absurd cc
    or_full (Some fault) never is = never is

    go : (b : Bool) → option_or (if b then Some (DealsFull (told_open held)) else None) (option_or (full acts) None) ≡ Some (Store (store.BadRow tab key)) → ⊥
    go true is = absurd cc
    go false is = or_full (full acts) (full_names_none acts tab key) is

deal_names_none : (fault : DealFault) (tab : ℕ) (key : Id) → Some (ledger_fault_of_deal fault) ≡ Some (Store (store.BadRow tab key)) → ⊥
deal_names_none (deal.BadLine line) tab key e = absurd cc
deal_names_none (deal.PartyTwice line) tab key e = absurd cc
deal_names_none (deal.UnknownParty line) tab key e = absurd cc
deal_names_none (deal.SelfStep line) tab key e = absurd cc
deal_names_none (deal.ZeroAmount line) tab key e = absurd cc
deal_names_none (deal.TooMany line) tab key e = absurd cc
deal_names_none (deal.SumTooLarge line) tab key e = absurd cc
deal_names_none (deal.NotConnected party) tab key e = absurd cc
deal_names_none deal.NoMemory tab key e = absurd cc

pub text_names_none : (house account : Id) (answer : Result DealTold DealFault) (tab : ℕ) (key : Id) → text_refusal house account answer ≡ Some (Store (store.BadRow tab key)) → FitsNoPart tab key
text_names_none house account (Err fault) tab key e = absurd (deal_names_none fault tab key e)
text_names_none house account (Ok told) tab key e = absurd (go (same_id told.house house) (index_of_account told.parties account) e)
  where
    go : (here : Bool) (index : Option ℕ) → option_or (if here then None else Some (WrongHouse told.house)) (option_or (if is_some index then None else Some (NotAParty account)) None) ≡ Some (Store (store.BadRow tab key)) → ⊥
    go false index is = absurd cc
    go true None is = absurd cc
    go true (Some index) is = absurd cc

-- ---- the text, and then the rows

first_refused : (how : Ended) (one other : Option LedgerFault) (fault : LedgerFault) → IsRefusal how one fault → IsRefusal how (option_or one other) fault
first_refused done one other fault is = is
first_refused failed one other fault is = tt
first_refused starved one other fault is = tt
first_refused refused one other fault is = ap (λ (o : Option LedgerFault). option_or o other) is

module _ (refusal : Option LedgerFault) (act : RowAct (Option ℕ)) where
  abbrev Registers : Result (Unit {0}) LedgerFault → Known → Known → Type 0
  Registers = ByRows 2 (Some deal_tab) (registration_refusal refusal act) (act_batches act) (λ tables done. Unit {0})

  pub text_refused : (fault : LedgerFault) (known : Known) → ((tab : ℕ) (key : Id) → refusal ≡ Some (Store (store.BadRow tab key)) → FitsNoPart tab key) → IsRefusedBy refusal fault → Registers (Err fault) known known
  text_refused fault known caused by =
      let rule = by_rule refusal fault by in
      record {
        leaves = reads_leave (commits_unless (registration_refusal refusal act) (act_batches act)) (of_ledger_fault fault) known known (never_done fault) (not_asked (of_ledger_fault fault) [] known rule.1 (λ e. refl));
        reply = told_always _ known.tables known.tables (λ tables. first_refused (of_ledger_fault fault) refusal (act_refusal act tables) fault rule.0);
        cause = rule_cause known.tables refusal fault caused by;
        looked = (omega arith, told_always _ known.tables known.tables (λ tables. omega arith));
      }

pub text_good : (refusal : Option LedgerFault) (act : RowAct (Option ℕ)) (result : Result (Unit {0}) LedgerFault) (before after : Known) → refusal ≡ None → ActsByRows 2 (Some deal_tab) act result before after → Registers refusal act result before after
text_good refusal act result before after none acted = subst (λ (o : Option LedgerFault). Registers o act result before after) (sym none) acted
