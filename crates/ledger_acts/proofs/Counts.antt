-- Behind an accepted act a ledger has one entry and one act more, or it was accepted before.
use Rattle.std.proofs.Common.{◌≡◌, ◌⊎◌, ℕ, ◌+◌, ◌≤◌, List, [], ◌∷◌, length, Option, Some, None, Result, Ok, Err, inl, inr, refl, sym, ap, ◌∙◌, arith}
use Rattle.std.proofs.lemmas.List.{length-append}
use Rattle.dh_base.specs.declared.id.Id.{Id}
use Rattle.act_text.specs.declared.act.Act.{Act as Asked}
use Rattle.act_text.specs.declared.act_fault.ActFault.{ActFault}
use Rattle.act_text.specs.declared.office.Office.TheVariants.{Ledger}
use Rattle.act_text.specs.ActReading.{act_of}
use Rattle.key_ring.specs.declared.envelope.Envelope.{Envelope}
use Rattle.ledger_rows.specs.declared.entry.Entry.{Entry}
use Rattle.ledger_rows.specs.declared.entry.Entry.TheVariants.{Act}
use Rattle.ledger_rows.specs.declared.used_key.UsedKey.{UsedKey}
use Rattle.ledger_rows.specs.Entries.{digest_of, used_of}
use Rattle.ledger_acts.specs.declared.ledger_fault.LedgerFault.{LedgerFault}
use Rattle.ledger_acts.specs.declared.ledger_fault.LedgerFault.TheVariants.{BadEnvelope, BadAct}
use Rattle.ledger_acts.specs.LedgerStep.{Opened, acts_of, StepsBy, ActSteps, MessageSteps, LedgerStep, Unsaid, Said}
use Rattle.ledger_acts.proofs.MovementSteps.{acts_more}
use Rattle.ledger_acts.proofs.OnceSteps.{used_below}
use Rattle.ledger_acts.proofs.OneMessage.{ok_is, kept_is}

-- it is the next entry, or was accepted before
pub record IsNew (at : ℕ) (entries later : List Entry) : Type 0 where
  pub at_is : at ≡ length entries + 1
  pub longer : length later ≡ length entries + 1
  pub acts : acts_of later ≡ acts_of entries + 1

pub record IsRepeat (at : ℕ) (entries later : List Entry) : Type 0 where
  pub before : at ≤ length entries
  pub same : later ≡ entries

by_steps : (entries later : List Entry) (account : Id) (q : ℕ) (message : List ℕ) (refusal : Option LedgerFault) (at : ℕ) → StepsBy entries (Act account q message) refusal (Ok at) later → IsNew at entries later ⊎ IsRepeat at entries later
by_steps entries later account q message None at s = inl (record {
  at_is = ok_is at (length entries + 1) _ _ refl refl s.0;
  longer = ap length s.1 ∙ length-append entries (Act account q message ∷ []);
  acts = ap acts_of s.1 ∙ acts_more entries account q message;
})
by_steps entries later account q message (Some fault) at s = absurd (let never : Ok at ≡ Err fault = s.0 in cc)

act_steps : (opened : Opened) (entries later : List Entry) (account : Id) (q : ℕ) (message : List ℕ) (asked : Asked) (used : Option UsedKey) (at : ℕ) → used_of entries account q ≡ used → ActSteps opened entries account q message asked used (Ok at) later → IsNew at entries later ⊎ IsRepeat at entries later
act_steps opened entries later account q message asked (Some used) at found s =
    let below = used_below 1 (1 + length entries) entries account q used (omega arith) found in
    let same : used.at ≡ at = ap (λ (u : UsedKey). u.at) (kept_is used (digest_of message) at (sym s.0)) in
    inr (record { before = omega (arith, below.at, same); same = s.1 })
act_steps opened entries later account q message asked None at found s = by_steps entries later account q message s.0 at s.2

message_steps : (opened : Opened) (entries later : List Entry) (account : Id) (q : ℕ) (message : List ℕ) (read : Result Asked ActFault) (at : ℕ) → MessageSteps opened entries account q message read (Ok at) later → IsNew at entries later ⊎ IsRepeat at entries later
message_steps opened entries later account q message (Err fault) at s = absurd (let never : Ok at ≡ Err (BadAct fault) = s.0 in cc)
message_steps opened entries later account q message (Ok asked) at s = act_steps opened entries later account q message asked (used_of entries account q) at refl s

pub accepted_counts : (opened : Opened) (entries later : List Entry) (env : Envelope) (at : ℕ) → LedgerStep opened entries env (Ok at) later → IsNew at entries later ⊎ IsRepeat at entries later
accepted_counts opened entries later env at (Unsaid fault answer is same) = absurd (let never : Ok at ≡ Err (BadEnvelope fault) = is in cc)
accepted_counts opened entries later env at (Said account q says steps) = message_steps opened entries later account q env.message (act_of Ledger env.message) at steps
