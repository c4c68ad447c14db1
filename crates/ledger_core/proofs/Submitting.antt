-- Behind an accepted act a ledger is at the later entries.
use Rattle.std.proofs.Common.{◌≡◌, ◌⊎◌, ℕ, ◌+◌, ◌-◌, ◌<◌, ◌≤◌, ◌^◌, ◌==◌, ◌&&◌, Bool, true, false, cond, if◌then◌else◌, List, [], ◌∷◌, ◌++◌, length, Option, Some, None, IfSome, Result, Ok, Err, inl, inr, refl, sym, ap, subst, ◌∙◌, arith}
use Rattle.std.specs.Option.{option_or}
use Rattle.std.proofs.lemmas.List.{length-append}
use Rattle.std.proofs.lemmas.List.Sums.{sum_by-append}
use Rattle.dh_base.specs.declared.id.Id.{Id}
use Rattle.dh_base.specs.Ids.{same_id}
use Rattle.act_text.specs.declared.act.Act.{Act as Asked}
use Rattle.act_text.specs.declared.act_fault.ActFault.{ActFault}
use Rattle.act_text.specs.declared.office.Office.TheVariants.{Ledger}
use Rattle.act_text.specs.ActReading.{act_of}
use Rattle.keeper_core.specs.Tables.{Tables}
use Rattle.keeper_core.specs.Knowing.{Known}
use Rattle.keeper_core.specs.Stepping.{WhereTold, IsReply, Backs}
use Rattle.key_ring.specs.declared.envelope.Envelope.{Envelope}
use Rattle.ledger_rows.specs.declared.entry.Entry.{Entry}
use Rattle.ledger_rows.specs.declared.entry.Entry.TheVariants.{Act, Settlement}
use Rattle.ledger_rows.specs.declared.used_key.UsedKey.{UsedKey}
use Rattle.ledger_rows.specs.Entries.{digest_of, signed_by, used_from, used_of}
use Rattle.ledger_acts.specs.declared.ledger_fault.LedgerFault.{LedgerFault}
use Rattle.ledger_acts.specs.declared.ledger_fault.LedgerFault.TheVariants.{BadEnvelope, BadAct, KeyReused}
use Rattle.ledger_acts.specs.declared.ledger_id.LedgerId.{LedgerId}
use Rattle.ledger_acts.specs.declared.place.Place.{Place}
use Rattle.ledger_acts.specs.LedgerFaults.{of_ledger_fault}
use Rattle.ledger_acts.specs.LedgerState.{IsState}
use Rattle.ledger_acts.specs.LedgerStep.{Opened, is_act, acts_of, kept_reply, StepsBy, ActSteps, MessageSteps, LedgerStep, Unsaid, Said}
use Rattle.ledger_acts.specs.Steps.{IsNext, refusal_in, IsCutShort, StepsByEnvelope, SubmitsByStep}
use Rattle.ledger_core.specs.declared.act_reply.ActReply.TheVariants.{Done}
use Rattle.ledger_core.specs.Ledgers.{LedgerTold, IsAt}
use Rattle.ledger_core.specs.Submits.{StepsFrom, SubmitsFrom}

-- ---- which entry a key has signed

signed_at : (number : ℕ) (account : Id) (q : ℕ) (entry : Entry) (used : UsedKey) → signed_by number account q entry ≡ Some used → used.at ≡ number
signed_at number account q (Act owner k message) used e = go (same_id account owner && (q == k)) e
  where
    go : (b : Bool) → (if b then Some (record { at = number; message = digest_of message }) else None) ≡ Some used → used.at ≡ number
    go true is = cc
    go false is = absurd cc
signed_at number account q (Settlement deal outcome) used e = absurd cc

used_below : (number : ℕ) (entries : List Entry) (account : Id) (q : ℕ) (used : UsedKey) → used_from number entries account q ≡ Some used → used.at < number + length entries
used_below number [] account q used e = absurd cc
used_below number (first ∷ entries) account q used e = go (used_below (number + 1) entries account q used) (signed_by number account q first) refl e
  where
    go : (used_from (number + 1) entries account q ≡ Some used → used.at < number + 1 + length entries) → (o : Option UsedKey) → signed_by number account q first ≡ o →
        option_or o (used_from (number + 1) entries account q) ≡ Some used → used.at < number + length (first ∷ entries)
    go behind None is found = let later = behind found in omega (arith, later)
    go behind (Some one) is found =
        let same : one ≡ used = cc in
        let at = signed_at number account q first used (is ∙ ap Some same) in omega (arith, at)

-- ---- the entries behind a step

-- The act of that number is one of the entries, or the next one.
abbrev pub IsOneOf : List Entry → ℕ → List Entry → Type 0
IsOneOf entries at later =
    ((at ≤ length entries) × (later ≡ entries))
    ⊎ ((at ≡ length entries + 1) × (acts_of later ≡ acts_of entries + 1) × (length later ≡ length entries + 1))

abbrev accepted : ℕ → Result ℕ LedgerFault
accepted at = Ok at

ok_same : (at other : ℕ) → accepted at ≡ Ok other → at ≡ other
ok_same at other e = cc

never_ok : (at : ℕ) (fault : LedgerFault) → accepted at ≡ Err fault → ⊥
never_ok at fault e = absurd cc

acts_more : (entries : List Entry) (account : Id) (q : ℕ) (message : List ℕ) → acts_of (entries ++ Act account q message ∷ []) ≡ acts_of entries + 1
acts_more entries account q message = sum_by-append (λ (e : Entry). cond (is_act e) 1 0) entries (Act account q message ∷ [])

by_refusal : (entries later : List Entry) (account : Id) (q : ℕ) (message : List ℕ) (refusal : Option LedgerFault) (at : ℕ) → StepsBy entries (Act account q message) refusal (Ok at) later → IsOneOf entries at later
by_refusal entries later account q message None at s =
    inr (ok_same at (length entries + 1) s.0, ap acts_of s.1 ∙ acts_more entries account q message, ap length s.1 ∙ length-append entries (Act account q message ∷ []))
by_refusal entries later account q message (Some fault) at s = absurd (never_ok at fault s.0)

kept_at : (used : UsedKey) (message : Id) (at : ℕ) → accepted at ≡ kept_reply used message → at ≡ used.at
kept_at used message at e = go (same_id message used.message) e
  where
    go : (b : Bool) → accepted at ≡ (if b then Ok used.at else Err (KeyReused used.message)) → at ≡ used.at
    go true is = ok_same at used.at is
    go false is = absurd (never_ok at (KeyReused used.message) is)

by_key : (opened : Opened) (entries later : List Entry) (account : Id) (q : ℕ) (message : List ℕ) (asked : Asked) (used : Option UsedKey) (at : ℕ) → used_of entries account q ≡ used →
    ActSteps opened entries account q message asked used (Ok at) later → IsOneOf entries at later
by_key opened entries later account q message asked None at is s = by_refusal entries later account q message s.0 at s.2
by_key opened entries later account q message asked (Some used) at is s =
    let below = used_below 1 entries account q used is in
    let same = kept_at used (digest_of message) at s.0 in
    inl (omega (arith, below, same), s.1)

by_message : (opened : Opened) (entries later : List Entry) (account : Id) (q : ℕ) (message : List ℕ) (read : Result Asked ActFault) (at : ℕ) → MessageSteps opened entries account q message read (Ok at) later → IsOneOf entries at later
by_message opened entries later account q message (Err fault) at s = absurd (never_ok at (BadAct fault) s.0)
by_message opened entries later account q message (Ok asked) at s = by_key opened entries later account q message asked (used_of entries account q) at refl s

by_step : (opened : Opened) (entries later : List Entry) (env : Envelope) (at : ℕ) → LedgerStep opened entries env (Ok at) later → IsOneOf entries at later
by_step opened entries later env at (Unsaid fault answer is same) = absurd (never_ok at (BadEnvelope fault) is)
by_step opened entries later env at (Said account q says steps) = by_message opened entries later account q env.message (act_of Ledger env.message) at steps

-- ---- where the ledger is then

module _ {K : Type 0} (opened : Opened) (entries : List Entry) (old : LedgerTold K) (ledger : LedgerId) (place : Place)
    (of : (ledger.name ≡ old.name) × (ledger.house ≡ old.house)) (acts : place.acts ≡ old.acts) (number : old.entries < 2 ^ 64 - 1 → place.number ≡ old.entries + 1)
    (at_old : IsAt opened entries old) where
  is_next : (tables : Tables) → IsState opened tables entries → IsNext opened entries ledger place
  is_next tables state = record {
    name = of.0 ∙ at_old.name;
    house = of.1 ∙ at_old.house;
    acts = acts ∙ at_old.acts_is;
    number = number (let few = state.few in let acted = state.acted in let is = at_old.length_is in omega (arith, few, acted, is)) ∙ ap (λ (n : ℕ). n + 1) at_old.length_is;
  }

  is_at_later : (now : LedgerTold K) (k : K) (at : ℕ) (later : List Entry) (tables : Tables) → IsState opened tables entries → IsOneOf entries at later
      → (old.entries < at → old.acts < 2 ^ 32 - 1 → now ≡ record old { keeper = k; entries = at; acts = old.acts + 1 })
      → (at ≤ old.entries → now ≡ record old { keeper = k }) → IsAt opened later now
  is_at_later now k at later tables state (inl repeated) new same =
      let is = at_old.length_is in
      let here = same (let few = repeated.0 in omega (arith, few, is)) in
      subst (λ (l : LedgerTold K). IsAt opened later l) (sym here)
      (subst (λ (es : List Entry). IsAt opened es (record old { keeper = k })) (sym repeated.1)
      (record { name = at_old.name; house = at_old.house; length_is = at_old.length_is; acts_is = at_old.acts_is }))
  is_at_later now k at later tables state (inr next) new same =
      let is = at_old.length_is in
      let acts' = at_old.acts_is in
      let few = state.few in
      let number' = next.0 in
      let here = new (omega (arith, is, number')) (omega (arith, acts', few)) in
      subst (λ (l : LedgerTold K). IsAt opened later l) (sym here)
      (record { name = at_old.name; house = at_old.house; length_is = number' ∙ sym next.2; acts_is = ap (λ (n : ℕ). n + 1) acts' ∙ sym next.1 })

-- where both maps are told
pub both_told : (before after : Known) (P : Type 0) → ((tables later : Tables) → before.tables ≡ Some tables → after.tables ≡ Some later → P) → WhereTold before after (λ tables. P)
both_told before after P holds = go after.tables refl before.tables refl
  where
    go : (a : Option Tables) → after.tables ≡ a → (b : Option Tables) → before.tables ≡ b → IfSome a (λ _. IfSome b (λ _. P))
    go None e b e' = tt
    go (Some later) e None e' = tt
    go (Some later) e (Some tables) e' = holds tables later e' e

module _ {K : Type 0} (old : LedgerTold K) (ledger : LedgerId) (place : Place) (env : Envelope) (before after : Known)
    (of : (ledger.name ≡ old.name) × (ledger.house ≡ old.house)) (acts : place.acts ≡ old.acts) (number : old.entries < 2 ^ 64 - 1 → place.number ≡ old.entries + 1) where
  pub refused_from : (now : LedgerTold K) (fault : LedgerFault) → SubmitsByStep ledger place env (Err fault) before after → SubmitsFrom old now env (Err fault) before after
  refused_from now fault step opened entries backs at_old = both_told before after _ (λ tables later told told'.
      let state : IsState opened tables entries = subst (λ (t : Option Tables). Backs (IsState opened) t entries) told backs in
      go (subst (λ (t : Option Tables). IfSome t (λ _. StepsByEnvelope opened entries env (Err fault) before after ⊎ IsCutShort opened entries (Err fault) after)) told'
      (step opened entries backs (is_next opened entries old ledger place of acts number at_old tables state))))
    where
      go : StepsByEnvelope opened entries env (Err fault) before after ⊎ IsCutShort opened entries (Err fault) after → StepsFrom opened entries now env (Err fault) before after ⊎ IsCutShort opened entries (Err fault) after
      go (inl s) = inl (record { reply = s.reply; later = s.later; step = s.step; replies = s.replies; moved = tt })
      go (inr cut) = inr cut

  pub accepted_from : (now : LedgerTold K) (k : K) (at : ℕ)
      → (old.entries < at → old.acts < 2 ^ 32 - 1 → now ≡ record old { keeper = k; entries = at; acts = old.acts + 1 })
      → (at ≤ old.entries → now ≡ record old { keeper = k })
      → SubmitsByStep ledger place env (Ok at) before after → SubmitsFrom old now env (Ok (Done at)) before after
  accepted_from now k at new same step opened entries backs at_old = both_told before after _ (λ tables later told told'.
      let state : IsState opened tables entries = subst (λ (t : Option Tables). Backs (IsState opened) t entries) told backs in
      go tables later told' state (subst (λ (t : Option Tables). IfSome t (λ _. StepsByEnvelope opened entries env (Ok at) before after ⊎ IsCutShort opened entries (Ok at) after)) told'
      (step opened entries backs (is_next opened entries old ledger place of acts number at_old tables state))))
    where
      go : (tables later : Tables) → after.tables ≡ Some later → IsState opened tables entries → StepsByEnvelope opened entries env (Ok at) before after ⊎ IsCutShort opened entries (Ok at) after →
          StepsFrom opened entries now env (Ok (Done at)) before after ⊎ IsCutShort opened entries (Ok at) after
      go tables later told' state (inl s) =
          let replied = subst (λ (t : Option Tables). IfSome t (λ _. IsReply of_ledger_fault (refusal_in s.reply) (λ (n : ℕ). s.reply ≡ Ok n) (Ok at))) told' s.replies.reply in
          let one = by_step opened entries s.later env at (subst (λ (r : Result ℕ LedgerFault). LedgerStep opened entries env r s.later) replied.1 s.step) in
          inl (record { reply = s.reply; later = s.later; step = s.step; replies = s.replies; moved = is_at_later opened entries old ledger place of acts number at_old now k at s.later tables state one new same })
      go tables later told' state (inr cut) = inr cut
