-- An act under its key is the ledger's step, whatever the act.
use Rattle.std.proofs.Common.{◌≡◌, ℕ, ◌+◌, ◌<◌, ◌≤◌, ◌^◌, ◌==◌, ◌&&◌, Bool, true, false, if◌then◌else◌, List, [], ◌∷◌, ◌++◌, length, Option, Some, None, IfSome, Result, Ok, Err, refl, sym, ap, subst, ◌∙◌, arith}
use Rattle.std.specs.Option.{option_map, option_or}
use Rattle.std.specs.FinMap.{get}
use Rattle.sha2.proofs.Facts256.{length-sha256}
use Rattle.dh_base.specs.declared.id.Id.{Id}
use Rattle.dh_base.specs.Ids.{same_id}
use Rattle.keeper_core.specs.declared.change.Change.{Change}
use Rattle.keeper_core.specs.Tables.{Tables}
use Rattle.keeper_core.specs.Knowing.{Known}
use Rattle.keeper_core.specs.Leaving.{after_batches}
use Rattle.keeper_core.specs.Stepping.{IsReply, AtMostOne, Backs, Steps}
use Rattle.keeper_core.proofs.Stepping.{steps}
use Rattle.ledger_rows.specs.declared.entry.Entry.{Entry}
use Rattle.ledger_rows.specs.declared.entry.Entry.TheVariants.{Act, Settlement}
use Rattle.ledger_rows.specs.declared.used_key.UsedKey.{UsedKey}
use Rattle.ledger_rows.specs.RowKeys.{used_tab, used_key}
use Rattle.ledger_rows.specs.RowValues.{used_in, used_text, UsedFits}
use Rattle.ledger_rows.specs.RowReading.{row_of, form_refusal, used_said, used_refusal}
use Rattle.ledger_rows.specs.Entries.{digest_of, signed_by, used_from, used_of}
use Rattle.ledger_rows.proofs.KeysSpelled.{used_parts}
use Rattle.ledger_rows.proofs.ValuesSpelled.{spelled_used}
use Rattle.ledger_acts.specs.declared.ledger_fault.LedgerFault.{LedgerFault}
use Rattle.ledger_acts.specs.declared.ledger_fault.LedgerFault.TheVariants.{Store}
use Rattle.ledger_acts.specs.LedgerFaults.{of_ledger_fault}
use Rattle.ledger_acts.specs.LedgerStep.{Opened}
use Rattle.ledger_acts.specs.LedgerState.{IsState}
use Rattle.ledger_acts.specs.ByRows.{ByRows}
use Rattle.ledger_acts.specs.Once.{by_key, number_by, batches_by, entries_by, key_said, key_at, once_refusal, once_batches, IsOnceAnswer}
use Rattle.ledger_acts.proofs.Answering.{never_done}

-- ---- what the row of a key says

pub record IsBelow (bound : ℕ) (used : UsedKey) : Type 0 where
  pub at : used.at < bound
  pub digest : length used.message.0 ≡ 32

signed_below : (number bound : ℕ) (account : Id) (q : ℕ) (e : Entry) (used : UsedKey) → number < bound → signed_by number account q e ≡ Some used → IsBelow bound used
signed_below number bound account q (Act owner k message) used lt e = go (same_id account owner && (q == k)) e
  where
    go : (here : Bool) → (if here then Some (record { at = number; message = digest_of message }) else None) ≡ Some used → IsBelow bound used
    go true is = subst (λ (u : UsedKey). IsBelow bound u) (let h = is in cc) (record { at = lt; digest = length-sha256 message })
    go false is = absurd cc
signed_below number bound account q (Settlement deal outcome) used lt e = absurd cc

first_or_later : (number bound : ℕ) (entries : List Entry) (account : Id) (q : ℕ) (first : Entry) (used : UsedKey) → number + length (first ∷ entries) ≤ bound → (used_from (number + 1) entries account q ≡ Some used → IsBelow bound used) →
    option_or (signed_by number account q first) (used_from (number + 1) entries account q) ≡ Some used → IsBelow bound used
first_or_later number bound entries account q first used le later e = go (signed_by number account q first) refl e
  where
    go : (o : Option UsedKey) → signed_by number account q first ≡ o → option_or o (used_from (number + 1) entries account q) ≡ Some used → IsBelow bound used
    go None is found = later found
    go (Some one) is found = signed_below number bound account q first used (omega (arith, le)) (is ∙ found)

pub used_below : (number bound : ℕ) (entries : List Entry) (account : Id) (q : ℕ) (used : UsedKey) → number + length entries ≤ bound → used_from number entries account q ≡ Some used → IsBelow bound used
used_below number bound [] account q used le e = absurd cc
used_below number bound (first ∷ entries) account q used le e =
    first_or_later number bound entries account q first used le (used_below (number + 1) bound entries account q used (omega (arith, le))) e

key_row : (o : Option UsedKey) → ((used : UsedKey) → o ≡ Some used → UsedFits used) → row_of used_in (option_map used_text o) ≡ Some o
key_row None fits = refl
key_row (Some used) fits = ap (option_map Some) (spelled_used used (fits used refl))

module _ (opened : Opened) (tables : Tables) (entries : List Entry) (account : Id) (q : ℕ) (is : IsState opened tables entries) (wide : length account.0 ≡ 32) (small : q < 2 ^ 32) where
  key_fits : (used : UsedKey) → used_of entries account q ≡ Some used → UsedFits used
  key_fits used found =
      let below = used_below 1 (1 + length entries) entries account q used (omega arith) found in
      (omega (arith, below.at, is.acted, is.few), below.digest)

  key_value : get tables (used_tab, used_key account q) ≡ option_map used_text (used_of entries account q)
  key_value =
      let parts = used_parts account q wide small in
      is.stands.used (used_key account q) ∙ rw parts.good (λ i. option_map used_text (used_of entries (parts.account_is i) (parts.number_is i)))

  pub key_says : used_said account q tables ≡ Some (used_of entries account q)
  key_says = ap (λ (o : Option (List ℕ)). row_of used_in o) key_value ∙ key_row (used_of entries account q) key_fits

  pub key_formed : used_refusal account q tables ≡ None
  key_formed = ap (λ (o : Option (Option UsedKey)). form_refusal used_tab (used_key account q) o) key_says

  pub key_is : key_at account q tables ≡ used_of entries account q
  key_is = ap (λ (o : Option (Option UsedKey)). key_said o) key_says

-- ---- the step
told_standing : (P Q S : Tables → Type 0) (before after : Option Tables) → ((tables : Tables) → S tables → P tables → Q tables) → IfSome before S → IfSome after (λ _. IfSome before P) → IfSome after (λ _. IfSome before Q)
told_standing P Q S before None on stands p = tt
told_standing P Q S None (Some later) on stands p = tt
told_standing P Q S (Some tables) (Some later) on stands p = on tables stands p

module _ (opened : Opened) (entries : List Entry) (account : Id) (q : ℕ) (message : List ℕ) (wide : length account.0 ≡ 32) (small : q < 2 ^ 32) (number : ℕ) (is_number : number ≡ length entries + 1)
    (rows : ℕ) (through : Option ℕ) (refusal : Tables → Option LedgerFault) (batches : Tables → List (List Change)) (step : Option LedgerFault) (few : (tables : Tables) → AtMostOne (batches tables))
    (agrees : (tables : Tables) → IsState opened tables entries → refusal tables ≡ step)
    (onward : used_of entries account q ≡ None → (tables : Tables) → IsState opened tables entries → refusal tables ≡ None → IsState opened (after_batches (batches tables) tables) (entries ++ Act account q message ∷ [])) where
  abbrev used : Option UsedKey
  used = used_of entries account q

  abbrev by_tables : Tables → Option LedgerFault
  by_tables = once_refusal account q (digest_of message) refusal

  abbrev once : Tables → List (List Change)
  once = once_batches account q batches

  abbrev next : List Entry
  next = entries_by used entries (Act account q message)

  once_agrees : (tables : Tables) → IsState opened tables entries → by_tables tables ≡ by_key (digest_of message) used step
  once_agrees tables is =
      let formed = key_formed opened tables entries account q is wide small in
      let says = key_is opened tables entries account q is wide small in
      (λ i. option_or (option_map Store (formed i)) (by_key (digest_of message) (says i) (agrees tables is i)))

  once_few : (tables : Tables) → AtMostOne (once tables)
  once_few tables = go (key_at account q tables)
    where
      go : (o : Option UsedKey) → AtMostOne (batches_by o (batches tables))
      go None = few tables
      go (Some one) = tt

  goes_on : (tables : Tables) → IsState opened tables entries → by_tables tables ≡ None → IsState opened (after_batches (once tables) tables) next
  goes_on tables is none =
      subst (λ (o : Option UsedKey). IsState opened (after_batches (batches_by o (batches tables)) tables) next) (sym (key_is opened tables entries account q is wide small)) (go used refl (sym (once_agrees tables is) ∙ none))
    where
      go : (o : Option UsedKey) → used_of entries account q ≡ o → by_key (digest_of message) o step ≡ None → IsState opened (after_batches (batches_by o (batches tables)) tables) (entries_by o entries (Act account q message))
      go None unused no_refusal = onward unused tables is (agrees tables is ∙ no_refusal)
      go (Some one) found no_refusal = is

  same_answer : (result : Result ℕ LedgerFault) (tables : Tables) → IsState opened tables entries → IsReply of_ledger_fault (by_tables tables) (IsOnceAnswer account q number tables) result → IsReply of_ledger_fault (by_tables tables) (λ at. at ≡ number_by used (length entries + 1)) result
  same_answer (Ok at) tables is reply = (reply.0, reply.1 ∙ (λ i. number_by (key_is opened tables entries account q is wide small i) (is_number i)))
  same_answer (Err fault) tables is reply = reply

  pub once_steps : (result : Result ℕ LedgerFault) (before after : Known) → ByRows rows through by_tables once (IsOnceAnswer account q number) result before after → Backs (IsState opened) before.tables entries →
      Steps (IsState opened) of_ledger_fault (by_key (digest_of message) used step) (λ at. at ≡ number_by used (length entries + 1)) entries next result before after
  once_steps result before after by stands =
      steps (IsState opened) of_ledger_fault by_tables once (λ at. at ≡ number_by used (length entries + 1)) (by_key (digest_of message) used step) entries next
      once_few once_agrees goes_on result before after never_done by.leaves
      (told_standing _ _ (λ tables. IsState opened tables entries) before.tables after.tables (λ tables is reply. same_answer result tables is reply) stands by.reply) stands
