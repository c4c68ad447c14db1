-- A registration under its key is the ledger's step.
use Rattle.std.proofs.Common.{◌≡◌, ◌⊎◌, ℕ, ◌+◌, List, [], ◌∷◌, ◌++◌, length, Option, Some, None, IfSome, Result, Ok, Err, inl, inr, refl, sym, ap, subst}
use Rattle.dh_base.specs.declared.id.Id.{Id}
use Rattle.dh_base.specs.Ids.{same_id}
use Rattle.act_text.specs.declared.act.Act.TheVariants.{Register}
use Rattle.deal_core.specs.Deals.{DealTold}
use Rattle.deal_core.specs.Reading.{Answers}
use Rattle.deal_core.specs.declared.deal_fault.DealFault.{DealFault}
use Rattle.deal_core.specs.declared.deal_fault.DealFault.TheVariants as deal
use Rattle.keeper_core.specs.declared.store_fault.StoreFault.TheVariants as store
use Rattle.keeper_core.specs.Tables.{Tables}
use Rattle.keeper_core.specs.Knowing.{Known}
use Rattle.keeper_core.specs.Leaving.{Ended, done, failed, starved, refused}
use Rattle.keeper_core.specs.Stepping.{IsRefusal, Steps}
use Rattle.keeper_core.proofs.Leaving.{if_some}
use Rattle.ledger_rows.specs.declared.entry.Entry.{Entry}
use Rattle.ledger_rows.specs.declared.entry.Entry.TheVariants.{Act}
use Rattle.ledger_rows.specs.declared.used_key.UsedKey.{UsedKey}
use Rattle.ledger_rows.specs.ActChanges.{act_changes}
use Rattle.ledger_rows.specs.Entries.{digest_of, used_of}
use Rattle.ledger_rows.specs.RowKeys.{deal_tab}
use Rattle.ledger_acts.specs.declared.ledger_fault.LedgerFault.{LedgerFault}
use Rattle.ledger_acts.specs.declared.ledger_fault.LedgerFault.TheVariants.{Store}
use Rattle.ledger_acts.specs.declared.ledger_id.LedgerId.{LedgerId}
use Rattle.ledger_acts.specs.declared.place.Place.{Place}
use Rattle.ledger_acts.specs.LedgerFaults.{of_ledger_fault}
use Rattle.ledger_acts.specs.LedgerState.{IsState}
use Rattle.ledger_acts.specs.LedgerStep.{Opened, text_refusal, register_refusal}
use Rattle.ledger_acts.specs.ByRows.{act_batches}
use Rattle.ledger_acts.specs.Once.{by_key, number_by, entries_by}
use Rattle.ledger_acts.specs.Registering.{registering, registration_refusal, RegistersOnceByRows}
use Rattle.ledger_acts.specs.Steps.{StepsByAct, IsCutShort, ActsByStep}
use Rattle.ledger_acts.proofs.OnceSteps.{once_steps}
use Rattle.ledger_acts.proofs.ActsStep.{Stepped, new_step, kept_step}
use Rattle.ledger_acts.proofs.MovesOnce.{always_told, few_batches}
use Rattle.ledger_acts.proofs.RegisterSteps.{register_agrees, onward}

-- ---- a call that ended for want of memory

starved_is : (how : Ended) (fault : LedgerFault) → of_ledger_fault fault ≡ how → IsRefusal how (Some (Store store.NoMemory)) fault → (of_ledger_fault fault ≡ failed) ⊎ (of_ledger_fault fault ≡ starved)
starved_is done fault is refusal = absurd refusal
starved_is failed fault is refusal = inl is
starved_is starved fault is refusal = inr is
starved_is refused fault is refusal = (let same : Store store.NoMemory ≡ fault = (let pair : Some (Store store.NoMemory) ≡ Some fault = refusal in cc) in inr (sym (ap of_ledger_fault same)))

cut_short : (opened : Opened) (entries next : List Entry) (n : ℕ) (result : Result ℕ LedgerFault) (before after : Known) → Steps (IsState opened) of_ledger_fault (Some (Store store.NoMemory)) (λ at. at ≡ n) entries next result before after → IfSome after.tables (λ _. IsCutShort opened entries result after)
cut_short opened entries next n (Ok at) before after s = if_some after.tables _ _ (λ tables is. (let never : Some (Store store.NoMemory) ≡ None = is.0 in absurd cc)) s.reply
cut_short opened entries next n (Err fault) before after s = if_some after.tables _ _ (λ tables is. record {
  fault = fault;
  ended = refl;
  by = starved_is (of_ledger_fault fault) fault refl is;
  stands = elim s.stopped [ inl same ↦ same | inr (halted, none, backs) ↦ absurd (let never : Some (Store store.NoMemory) ≡ None = none in cc) ];
}) s.reply

-- ---- what the text reads as

memory_left : (answer : Result DealTold DealFault) → (answer ≡ Err deal.NoMemory) ⊎ (answer ≡ Err deal.NoMemory → ⊥)
memory_left (Ok told) = inr (λ e. absurd cc)
memory_left (Err deal.NoMemory) = inl refl
memory_left (Err (deal.BadLine line)) = inr (λ e. absurd cc)
memory_left (Err (deal.PartyTwice line)) = inr (λ e. absurd cc)
memory_left (Err (deal.UnknownParty line)) = inr (λ e. absurd cc)
memory_left (Err (deal.SelfStep line)) = inr (λ e. absurd cc)
memory_left (Err (deal.ZeroAmount line)) = inr (λ e. absurd cc)
memory_left (Err (deal.TooMany line)) = inr (λ e. absurd cc)
memory_left (Err (deal.SumTooLarge line)) = inr (λ e. absurd cc)
memory_left (Err (deal.NotConnected party)) = inr (λ e. absurd cc)

to_either : (X Y : Type 0) (told : Option Tables) → IfSome told (λ _. Y) → IfSome told (λ _. X ⊎ Y)
to_either X Y None y = tt
to_either X Y (Some tables) y = inr y

module _ (opened : Opened) (entries : List Entry) (account : Id) (q : ℕ) (message text : List ℕ) (result : Result ℕ LedgerFault) (before after : Known) (answer : Result DealTold DealFault) (reads_as : Answers text answer) where
  abbrev Either : Option UsedKey → Type 0
  Either used = Stepped opened entries account q message (Register text) result before after used ⊎ IsCutShort opened entries result after

  abbrev StepsFor : Option UsedKey → Result DealTold DealFault → Type 0
  StepsFor used read = Steps (IsState opened) of_ledger_fault (by_key (digest_of message) used (register_refusal opened entries account text read)) (λ at. at ≡ number_by used (length entries + 1)) entries (entries_by used entries (Act account q message)) result before after

  either_by : (used : Option UsedKey) → StepsFor used answer → IfSome after.tables (λ _. Either used)
  either_by (Some used) s = always_told (Either (Some used)) after.tables (inl (kept_step opened entries account q message (Register text) result before after used (same_id (digest_of message) used.message) refl s))
  either_by None s = elim (memory_left answer) [
    | inl none_left ↦ to_either (Stepped opened entries account q message (Register text) result before after None) (IsCutShort opened entries result after) after.tables (cut_short opened entries (entries ++ Act account q message ∷ []) (length entries + 1) result before after (subst (StepsFor None) none_left s))
    | inr left ↦ always_told (Either None) after.tables (inl (new_step opened entries account q message (Register text) result before after (register_refusal opened entries account text answer)
        (answer, record { answers = reads_as; some = left }, refl) s))
  ]

  as_act : Either (used_of entries account q) → StepsByAct opened entries account q message (Register text) result before after ⊎ IsCutShort opened entries result after
  as_act either = elim either [
    | inl stepped ↦ inl (record { reply = stepped.0; later = stepped.1; step = stepped.2; replies = stepped.3 })
    | inr cut ↦ inr cut
  ]

pub registers_once : (ledger : LedgerId) (place : Place) (account : Id) (q : ℕ) (message text : List ℕ) (result : Result ℕ LedgerFault) (before after : Known) →
    RegistersOnceByRows ledger place account q message text result before after → ActsByStep ledger place account q message (Register text) result before after
registers_once ledger place account q message text result before after once opened entries stands next wide small reads fits =
    let answer = once.0 in
    let act = registering account (digest_of text) text place.acts (act_changes place.number account q message) in
    if_some after.tables _ _ (λ tables either. as_act opened entries account q message text result before after answer once.1 either)
    (either_by opened entries account q message text result before after answer once.1 (used_of entries account q)
    (once_steps opened entries account q message wide small place.number next.number 3 (Some deal_tab) (registration_refusal (text_refusal ledger.house account answer) act) (act_batches act) (register_refusal opened entries account text answer) (few_batches act)
    (register_agrees opened entries ledger.house text place.acts place.number account q message next.house next.acts answer)
    (λ unused tables is none. onward opened entries ledger.house text place.acts place.number account q message next.house (record { reads = reads; new = record { wide = wide; small = small; unused = unused } }) next.acts next.number answer once.1 tables is none)
    result before after once.2 stands))
