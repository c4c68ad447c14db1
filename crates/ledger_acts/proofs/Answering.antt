-- How calls over a ledger's rows end, and what they name.
use Rattle.std.proofs.Common.{◌≡◌, ℕ, ◌+◌, ◌≤◌, length, Option, Some, None, IfSome, IsSome, inl, inr, ap, subst, arith}
use Rattle.std.specs.Option.{option_map, option_or}
use Rattle.dh_base.specs.declared.id.Id.{Id}
use Rattle.keeper_core.specs.declared.keep_fault.KeepFault.{KeepFault}
use Rattle.keeper_core.specs.declared.keep_fault.KeepFault.TheVariants as keep
use Rattle.keeper_core.specs.declared.store_fault.StoreFault.{StoreFault}
use Rattle.keeper_core.specs.declared.store_fault.StoreFault.TheVariants as store
use Rattle.keeper_core.specs.StoreFaults.{HasCause, store_fault_of}
use Rattle.keeper_core.specs.Tables.{Tables, rows_of}
use Rattle.keeper_core.specs.Knowing.{Known, LooksAtMost}
use Rattle.keeper_core.specs.Leaving.{Ended, done, failed, starved, refused, of_store_fault, KeepsTold}
use Rattle.keeper_core.specs.Stepping.{IsRefusal}
use Rattle.keeper_core.proofs.Leaving.{is_told}
use Rattle.ledger_rows.specs.RowReading.{LacksForm}
use Rattle.ledger_acts.specs.declared.ledger_fault.LedgerFault.{LedgerFault}
use Rattle.ledger_acts.specs.declared.ledger_fault.LedgerFault.TheVariants.{BadEnvelope, BadAct, KeyReused, WrongLedger, BadDeal, WrongHouse, UnknownDeal, NotAParty, DealsFull, DealSettled, WrongTurn, ZeroOrSelf, Short, LedgerFull, Store}
use Rattle.ledger_acts.specs.LedgerFaults.{of_ledger_fault}
use Rattle.ledger_acts.specs.ByRows.{IsRefusedBy, LooksBy, FitsNoPart, IsCause}

-- a fault that no keeper's call gave
pub by_rule : (refusal : Option LedgerFault) (fault : LedgerFault) → IsRefusedBy refusal fault → IsRefusal (of_ledger_fault fault) refusal fault × (of_ledger_fault fault ≡ failed → ⊥)
by_rule refusal (BadEnvelope fault) is = (is, λ e. absurd cc)
by_rule refusal (BadAct fault) is = (is, λ e. absurd cc)
by_rule refusal (KeyReused kept) is = (is, λ e. absurd cc)
by_rule refusal (WrongLedger named) is = (is, λ e. absurd cc)
by_rule refusal (BadDeal fault) is = (is, λ e. absurd cc)
by_rule refusal (WrongHouse named) is = (is, λ e. absurd cc)
by_rule refusal UnknownDeal is = (is, λ e. absurd cc)
by_rule refusal (NotAParty account) is = (is, λ e. absurd cc)
by_rule refusal (DealsFull held) is = (is, λ e. absurd cc)
by_rule refusal (DealSettled outcome) is = (is, λ e. absurd cc)
by_rule refusal (WrongTurn expected) is = (is, λ e. absurd cc)
by_rule refusal ZeroOrSelf is = (is, λ e. absurd cc)
by_rule refusal (Short held) is = (is, λ e. absurd cc)
by_rule refusal (LedgerFull acts) is = (is, λ e. absurd cc)
by_rule refusal (Store store.Keeper) is = absurd is
by_rule refusal (Store (store.BadRow tab key)) is = (is, λ e. absurd cc)
by_rule refusal (Store store.NoMemory) is = (tt, λ e. absurd cc)

pub store_not_done : (fault : StoreFault) → of_store_fault fault ≡ done → ⊥
store_not_done store.Keeper e = absurd cc
store_not_done (store.BadRow tab key) e = absurd cc
store_not_done store.NoMemory e = absurd cc

pub never_done : (fault : LedgerFault) → of_ledger_fault fault ≡ done → ⊥
never_done (BadEnvelope fault) e = absurd cc
never_done (BadAct fault) e = absurd cc
never_done (KeyReused kept) e = absurd cc
never_done (WrongLedger named) e = absurd cc
never_done (BadDeal fault) e = absurd cc
never_done (WrongHouse named) e = absurd cc
never_done UnknownDeal e = absurd cc
never_done (NotAParty account) e = absurd cc
never_done (DealsFull held) e = absurd cc
never_done (DealSettled outcome) e = absurd cc
never_done (WrongTurn expected) e = absurd cc
never_done ZeroOrSelf e = absurd cc
never_done (Short held) e = absurd cc
never_done (LedgerFull acts) e = absurd cc
never_done (Store fault) e = store_not_done fault e

-- the fault of a row, as the ledger's
pub stored : (how : Ended) (rest : Option LedgerFault) (refusal : Option StoreFault) (fault : StoreFault) → IsRefusal how refusal fault → IsRefusal how (option_or (option_map Store refusal) rest) (Store fault)
stored done rest refusal fault is = is
stored failed rest refusal fault is = tt
stored starved rest refusal fault is = tt
stored refused rest refusal fault is = ap (λ (o : Option StoreFault). option_or (option_map Store o) rest) is

-- ---- why a row is named

pub read_cause : (told : Option Tables) (fault : StoreFault) → HasCause LacksForm told fault → IsCause told (Store fault)
read_cause told store.Keeper has = tt
read_cause told (store.BadRow tab key) has = inl has
read_cause told store.NoMemory has = tt

pub keeper_cause : (told : Option Tables) (fault : KeepFault) → IsCause told (Store (store_fault_of fault))
keeper_cause told keep.Failed = tt
keeper_cause told keep.NoMemory = tt

pub rule_cause : (told : Option Tables) (refusal : Option LedgerFault) (fault : LedgerFault) → ((tab : ℕ) (key : Id) → refusal ≡ Some (Store (store.BadRow tab key)) → FitsNoPart tab key) → IsRefusedBy refusal fault → IsCause told fault
rule_cause told refusal (BadEnvelope fault) caused is = tt
rule_cause told refusal (BadAct fault) caused is = tt
rule_cause told refusal (KeyReused kept) caused is = tt
rule_cause told refusal (WrongLedger named) caused is = tt
rule_cause told refusal (BadDeal fault) caused is = tt
rule_cause told refusal (WrongHouse named) caused is = tt
rule_cause told refusal UnknownDeal caused is = tt
rule_cause told refusal (NotAParty account) caused is = tt
rule_cause told refusal (DealsFull held) caused is = tt
rule_cause told refusal (DealSettled outcome) caused is = tt
rule_cause told refusal (WrongTurn expected) caused is = tt
rule_cause told refusal ZeroOrSelf caused is = tt
rule_cause told refusal (Short held) caused is = tt
rule_cause told refusal (LedgerFull acts) caused is = tt
rule_cause told refusal (Store store.Keeper) caused is = tt
rule_cause told refusal (Store (store.BadRow tab key)) caused is = inr (caused tab key is)
rule_cause told refusal (Store store.NoMemory) caused is = tt

-- ---- what is told

pub told_always : (P : Tables → Type 0) (before after : Option Tables) → ((tables : Tables) → P tables) → IfSome after (λ _. IfSome before P)
told_always P before None always = tt
told_always P None (Some later) always = tt
told_always P (Some tables) (Some later) always = always tables

pub told_on : (P R : Tables → Type 0) (before after : Option Tables) → ((tables : Tables) → P tables → R tables) → IfSome after (λ _. IfSome before P) → IfSome after (λ _. IfSome before R)
told_on P R before None on p = tt
told_on P R None (Some later) on p = tt
told_on P R (Some tables) (Some later) on p = on tables p

pub told_later : (P : Tables → Type 0) (before mid after : Option Tables) → IfSome after (λ _. IsSome mid) → IfSome mid (λ _. IfSome before P) → IfSome after (λ _. IfSome before P)
told_later P before mid None told p = tt
told_later P before None (Some later) told p = absurd cc
told_later P before (Some middle) (Some later) told p = p

-- a call before leaves the map as it is
pub told_from : (P : Tables → Type 0) (before mid after : Option Tables) → KeepsTold before mid → IfSome after (λ _. IsSome mid) → IfSome after (λ _. IfSome mid P) → IfSome after (λ _. IfSome before P)
told_from P before mid None keeps told p = tt
told_from P None (Some middle) (Some later) keeps told p = tt
told_from P before None (Some later) keeps told p = absurd cc
told_from P (Some tables) (Some middle) (Some later) keeps told p = is_told_as P tables middle keeps p
  where
    is_told_as : (P : Tables → Type 0) (tables middle : Tables) → KeepsTold (Some tables) (Some middle) → P middle → P tables
    is_told_as P tables middle keeps p = subst P (is_told middle tables keeps) p

-- ---- look-ups

pub few_looks : (m n : ℕ) (through : Option ℕ) (before after : Known) → m ≤ n → LooksAtMost m before after → LooksBy n through before after
few_looks m n None before after le looked = (looked.0, omega (arith, looked.1))
few_looks m n (Some tab) before after le looked = (looked.0, told_always _ before.tables after.tables (λ tables. omega (arith, looked.1)))

pub more_looks : (m n : ℕ) (through : Option ℕ) (before after : Known) → m ≤ n → LooksBy m through before after → LooksBy n through before after
more_looks m n None before after le looked = (looked.0, omega (arith, looked.1))
more_looks m n (Some tab) before after le looked = (looked.0, told_on _ _ before.tables after.tables (λ tables within. omega (arith, within)) looked.1)

pub looks_first : (m n : ℕ) (through : Option ℕ) (before mid after : Known) → KeepsTold before.tables mid.tables → IfSome after.tables (λ _. IsSome mid.tables) → LooksAtMost m before mid → LooksBy n through mid after → LooksBy (m + n) through before after
looks_first m n None before mid after keeps told one two = (omega (arith, one.0, two.0), omega (arith, one.1, two.1))
looks_first m n (Some tab) before mid after keeps told one two = (
  omega (arith, one.0, two.0),
  told_from _ before.tables mid.tables after.tables keeps told
      (told_on (λ tables. after.looked ≤ mid.looked + (n + length (rows_of tab tables))) (λ tables. after.looked ≤ before.looked + ((m + n) + length (rows_of tab tables))) mid.tables after.tables (λ tables within. omega (arith, one.1, within)) two.1),
)

pub looks_last : (n : ℕ) (through : Option ℕ) (before mid after : Known) → IfSome after.tables (λ _. IsSome mid.tables) → after.looked ≡ mid.looked → LooksBy n through before mid → LooksBy n through before after
looks_last n None before mid after told same looked = (omega (arith, looked.0, same), omega (arith, looked.1, same))
looks_last n (Some tab) before mid after told same looked = (
  omega (arith, looked.0, same),
  told_later _ before.tables mid.tables after.tables told
      (told_on (λ tables. mid.looked ≤ before.looked + (n + length (rows_of tab tables))) (λ tables. after.looked ≤ before.looked + (n + length (rows_of tab tables))) before.tables mid.tables (λ tables within. omega (arith, within, same)) looked.1),
)
