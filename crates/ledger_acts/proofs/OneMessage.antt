-- A key has one accepted message at most, and the same reply each time.
use Rattle.std.proofs.Common.{◌≡◌, ◌⊎◌, ℕ, ◌+◌, ◌==◌, ◌&&◌, Bool, true, false, if◌then◌else◌, List, [], ◌∷◌, ◌++◌, length, Option, Some, None, Result, Ok, Err, inl, inr, refl, sym, ap, subst, ◌∙◌, arith}
use Rattle.std.specs.List.{AllByRecursion}
use Rattle.std.specs.Option.{option_or}
use Rattle.std.proofs.lemmas.Bool.{eq-eqb}
use Rattle.dh_base.specs.declared.id.Id.{Id}
use Rattle.dh_base.specs.Ids.{same_id}
use Rattle.dh_base.proofs.SameIds.{same_id-self, id_from_same}
use Rattle.act_text.specs.declared.act.Act.{Act as Asked}
use Rattle.act_text.specs.declared.act_fault.ActFault.{ActFault}
use Rattle.act_text.specs.declared.office.Office.TheVariants.{Ledger}
use Rattle.act_text.specs.ActReading.{act_of}
use Rattle.key_ring.specs.declared.env_fault.EnvFault.{EnvFault}
use Rattle.key_ring.specs.declared.envelope.Envelope.{Envelope}
use Rattle.key_ring.specs.declared.said.Said.{Said}
use Rattle.key_ring.specs.Answering.{IsAnswer}
use Rattle.key_ring.specs.Saying.{Says}
use Rattle.key_ring.proofs.Checked.{says_both}
use Rattle.ledger_rows.specs.declared.entry.Entry.{Entry}
use Rattle.ledger_rows.specs.declared.entry.Entry.TheVariants.{Act}
use Rattle.ledger_rows.specs.declared.used_key.UsedKey.{UsedKey}
use Rattle.ledger_rows.specs.Entries.{digest_of, signed_by, used_from, used_of}
use Rattle.ledger_acts.specs.declared.ledger_fault.LedgerFault.{LedgerFault}
use Rattle.ledger_acts.specs.declared.ledger_fault.LedgerFault.TheVariants.{BadAct, KeyReused}
use Rattle.ledger_acts.specs.LedgerStep.{Opened, kept_reply, StepsBy, ActSteps, MessageSteps, LedgerStep, Unsaid, Said as StepSaid}
use Rattle.ledger_acts.specs.Runs.{Request, IsRun, IsKept}

-- ---- what a key has signed stays

used_append : (number : ℕ) (entries more : List Entry) (account : Id) (q : ℕ) (used : UsedKey) → used_from number entries account q ≡ Some used → used_from number (entries ++ more) account q ≡ Some used
used_append number [] more account q used e = absurd cc
used_append number (first ∷ entries) more account q used e = go (signed_by number account q first) e (used_append (number + 1) entries more account q used)
  where
    go : (o : Option UsedKey) → option_or o (used_from (number + 1) entries account q) ≡ Some used → (used_from (number + 1) entries account q ≡ Some used → used_from (number + 1) (entries ++ more) account q ≡ Some used) →
        option_or o (used_from (number + 1) (entries ++ more) account q) ≡ Some used
    go None e later = later e
    go (Some one) e later = e

-- a new key has signed the next entry
used_next : (number : ℕ) (entries : List Entry) (account : Id) (q : ℕ) (message : List ℕ) → used_from number entries account q ≡ None →
    used_from number (entries ++ Act account q message ∷ []) account q ≡ Some (record { at = number + length entries; message = digest_of message })
used_next number [] account q message e =
    ap (λ (b : Bool). option_or (if b then Some (record { at = number; message = digest_of message }) else None) None) (here account q)
    ∙ (λ i. Some (record { at = plus_zero number i; message = digest_of message }))
  where
    here : (account : Id) (q : ℕ) → (same_id account account && (q == q)) ≡ true
    here account q = (λ i. same_id-self account i && eq-eqb q q refl i)

    plus_zero : (n : ℕ) → n ≡ n + 0
    plus_zero n = omega arith
used_next number (first ∷ entries) account q message e = go (signed_by number account q first) e (used_next (number + 1) entries account q message)
  where
    shift : (n k : ℕ) → (n + 1) + k ≡ n + (k + 1)
    shift n k = omega arith

    go : (o : Option UsedKey) → option_or o (used_from (number + 1) entries account q) ≡ None →
        (used_from (number + 1) entries account q ≡ None → used_from (number + 1) (entries ++ Act account q message ∷ []) account q ≡ Some (record { at = (number + 1) + length entries; message = digest_of message })) →
        option_or o (used_from (number + 1) (entries ++ Act account q message ∷ []) account q) ≡ Some (record { at = number + length (first ∷ entries); message = digest_of message })
    go None e later = later e ∙ (λ i. Some (record { at = sums i; message = digest_of message }))
      where
        sums : (number + 1) + length entries ≡ number + length (first ∷ entries)
        sums = omega arith
    go (Some one) e later = absurd cc

-- ---- one step

one_account : (env : Envelope) (account other : Id) (q k : ℕ) → Says env account.0 q env.message → Says env other.0 k env.message → (account ≡ other) × (q ≡ k)
one_account env account other q k says says' =
    let same : account.0 ≡ other.0 = says.account_is ∙ sym says'.account_is in
    ((λ i. record { 0 = same i }), says.q_is ∙ sym says'.q_is)

never_unsaid : (env : Envelope) (account : Id) (q : ℕ) (fault : EnvFault) → Says env account.0 q env.message → IsAnswer env (Err fault) → ⊥
never_unsaid env account q fault says answer =
    let said : Said = record { account = account; q = q } in
    let never : Err fault ≡ Ok said = (says_both env (Err fault) answer said).1 says in absurd cc

-- the step of an envelope that says a message of the account under that key
message_step : (opened : Opened) (entries next : List Entry) (env : Envelope) (reply : Result ℕ LedgerFault) (account : Id) (q : ℕ) → Says env account.0 q env.message → LedgerStep opened entries env reply next →
    MessageSteps opened entries account q env.message (act_of Ledger env.message) reply next
message_step opened entries next env reply account q says (Unsaid fault answer is same) = absurd (never_unsaid env account q fault says answer)
message_step opened entries next env reply account q says (StepSaid other k says' steps) =
    let one = one_account env account other q k says says' in
    subst (λ (a : Id). MessageSteps opened entries a q env.message (act_of Ledger env.message) reply next) (sym one.0)
    (subst (λ (n : ℕ). MessageSteps opened entries other n env.message (act_of Ledger env.message) reply next) (sym one.1) steps)

-- a step keeps what a key has signed
abbrev Keeps : List Entry → List Entry → Type 0
Keeps entries next = (account : Id) (q : ℕ) (used : UsedKey) → used_of entries account q ≡ Some used → used_of next account q ≡ Some used

keeps_same : (entries next : List Entry) → next ≡ entries → Keeps entries next
keeps_same entries next is account q used found = ap (λ (es : List Entry). used_of es account q) is ∙ found

keeps_more : (entries next : List Entry) (entry : Entry) → next ≡ entries ++ entry ∷ [] → Keeps entries next
keeps_more entries next entry is account q used found = ap (λ (es : List Entry). used_of es account q) is ∙ used_append 1 entries (entry ∷ []) account q used found

by_keeps : (entries next : List Entry) (entry : Entry) (refusal : Option LedgerFault) (reply : Result ℕ LedgerFault) → StepsBy entries entry refusal reply next → Keeps entries next
by_keeps entries next entry None reply s = keeps_more entries next entry s.1
by_keeps entries next entry (Some fault) reply s = keeps_same entries next s.1

act_keeps : (opened : Opened) (entries next : List Entry) (account : Id) (q : ℕ) (message : List ℕ) (asked : Asked) (used : Option UsedKey) (reply : Result ℕ LedgerFault) → ActSteps opened entries account q message asked used reply next → Keeps entries next
act_keeps opened entries next account q message asked (Some used) reply s = keeps_same entries next s.1
act_keeps opened entries next account q message asked None reply s = by_keeps entries next (Act account q message) s.0 reply s.2

message_keeps : (opened : Opened) (entries next : List Entry) (account : Id) (q : ℕ) (message : List ℕ) (read : Result Asked ActFault) (reply : Result ℕ LedgerFault) → MessageSteps opened entries account q message read reply next → Keeps entries next
message_keeps opened entries next account q message (Err fault) reply s = keeps_same entries next s.1
message_keeps opened entries next account q message (Ok asked) reply s = act_keeps opened entries next account q message asked (used_of entries account q) reply s

step_keeps : (opened : Opened) (entries next : List Entry) (env : Envelope) (reply : Result ℕ LedgerFault) → LedgerStep opened entries env reply next → Keeps entries next
step_keeps opened entries next env reply (Unsaid fault answer is same) = keeps_same entries next same
step_keeps opened entries next env reply (StepSaid account q says steps) = message_keeps opened entries next account q env.message (act_of Ledger env.message) reply steps

-- ---- an accepted message is kept under its key

pub ok_is : (one other : ℕ) (a b : Result ℕ LedgerFault) → a ≡ Ok one → b ≡ Ok other → a ≡ b → one ≡ other
ok_is one other a b is is' e = ap number_or (sym is ∙ e ∙ is')
  where
    number_or : Result ℕ LedgerFault → ℕ
    number_or (Ok n) = n
    number_or (Err fault) = one

pub kept_is : (used : UsedKey) (message : Id) (number : ℕ) → kept_reply used message ≡ Ok number → used ≡ record { at = number; message = message }
kept_is used message number e = go (same_id message used.message) refl e
  where
    go : (same : Bool) → same_id message used.message ≡ same → (if same then Ok used.at else Err (KeyReused used.message)) ≡ Ok number → used ≡ record { at = number; message = message }
    go true same e = (let at : used.at ≡ number = ok_is used.at number _ _ refl refl e in (λ i. record { at = at i; message = sym (id_from_same message used.message same) i }))
    go false same e = absurd (let never : Err (KeyReused used.message) ≡ Ok number = e in cc)

by_accepted : (entries next : List Entry) (account : Id) (q : ℕ) (message : List ℕ) (refusal : Option LedgerFault) (number : ℕ) → used_of entries account q ≡ None → StepsBy entries (Act account q message) refusal (Ok number) next →
    used_of next account q ≡ Some (record { at = number; message = digest_of message })
by_accepted entries next account q message None number unused s =
    let at : number ≡ length entries + 1 = ok_is number (length entries + 1) _ _ refl refl s.0 in
    ap (λ (es : List Entry). used_of es account q) s.1 ∙ used_next 1 entries account q message unused ∙ (λ i. Some (record { at = numbers at i; message = digest_of message }))
  where
    numbers : number ≡ length entries + 1 → 1 + length entries ≡ number
    numbers at = omega arith
by_accepted entries next account q message (Some fault) number unused s = absurd (let never : Ok number ≡ Err fault = s.0 in cc)

act_accepted : (opened : Opened) (entries next : List Entry) (account : Id) (q : ℕ) (message : List ℕ) (asked : Asked) (used : Option UsedKey) (number : ℕ) → used_of entries account q ≡ used → ActSteps opened entries account q message asked used (Ok number) next →
    used_of next account q ≡ Some (record { at = number; message = digest_of message })
act_accepted opened entries next account q message asked (Some used) number found s =
    ap (λ (es : List Entry). used_of es account q) s.1 ∙ found ∙ ap (λ (u : UsedKey). Some u) (kept_is used (digest_of message) number (sym s.0))
act_accepted opened entries next account q message asked None number unused s = by_accepted entries next account q message s.0 number unused s.2

message_accepted : (opened : Opened) (entries next : List Entry) (account : Id) (q : ℕ) (message : List ℕ) (read : Result Asked ActFault) (number : ℕ) → MessageSteps opened entries account q message read (Ok number) next →
    used_of next account q ≡ Some (record { at = number; message = digest_of message })
message_accepted opened entries next account q message (Err fault) number s = absurd (let never : Ok number ≡ Err (BadAct fault) = s.0 in cc)
message_accepted opened entries next account q message (Ok asked) number s = act_accepted opened entries next account q message asked (used_of entries account q) number refl s

-- ---- a used key answers

act_kept : (opened : Opened) (entries next : List Entry) (account : Id) (q : ℕ) (message : List ℕ) (asked : Asked) (used : UsedKey) (found : Option UsedKey) (reply : Result ℕ LedgerFault) → found ≡ Some used → ActSteps opened entries account q message asked found reply next →
    reply ≡ kept_reply used (digest_of message)
act_kept opened entries next account q message asked used (Some other) reply is s = s.0 ∙ ap (λ (u : UsedKey). kept_reply u (digest_of message)) (some_used other used is)
  where
    some_used : (one other : UsedKey) → Some one ≡ Some other → one ≡ other
    some_used one other e = ap from_some e
      where
        from_some : Option UsedKey → UsedKey
        from_some None = one
        from_some (Some u) = u
act_kept opened entries next account q message asked used None reply is s = absurd cc

message_kept : (opened : Opened) (entries next : List Entry) (account : Id) (q : ℕ) (message : List ℕ) (read : Result Asked ActFault) (used : UsedKey) (reply : Result ℕ LedgerFault) → used_of entries account q ≡ Some used → MessageSteps opened entries account q message read reply next →
    (reply ≡ kept_reply used (digest_of message)) ⊎ ((fault : ActFault) × (reply ≡ Err (BadAct fault)))
message_kept opened entries next account q message (Err fault) used reply found s = inr (fault, s.0)
message_kept opened entries next account q message (Ok asked) used reply found s = inl (act_kept opened entries next account q message asked used (used_of entries account q) reply found s)

-- ---- all requests

all_kept : (opened : Opened) (requests : List Request) (entries later : List Entry) (account : Id) (q number : ℕ) (message : Id) → used_of entries account q ≡ Some (record { at = number; message = message }) → IsRun opened entries requests later →
    AllByRecursion (IsKept account q number message) requests
all_kept opened [] entries later account q number message found run = tt
all_kept opened (request ∷ requests) entries later account q number message found run = (
  λ says. message_kept opened entries run.0 account q request.env.message (act_of Ledger request.env.message) (record { at = number; message = message }) request.reply found (message_step opened entries run.0 request.env request.reply account q says run.1),
  all_kept opened requests run.0 later account q number message (step_keeps opened entries run.0 request.env request.reply run.1 account q (record { at = number; message = message }) found) run.2,
)

pub one_message : (opened : Opened) (entries later : List Entry) (first : Request) (requests : List Request) (account : Id) (q number : ℕ) → IsRun opened entries (first ∷ requests) later → Says first.env account.0 q first.env.message → first.reply ≡ Ok number →
    AllByRecursion (IsKept account q number (digest_of first.env.message)) requests
one_message opened entries later first requests account q number run says accepted =
    let steps = subst (λ (r : Result ℕ LedgerFault). LedgerStep opened entries first.env r run.0) accepted run.1 in
    all_kept opened requests run.0 later account q number (digest_of first.env.message)
    (message_accepted opened entries run.0 account q first.env.message (act_of Ledger first.env.message) number (message_step opened entries run.0 first.env (Ok number) account q says steps)) run.2
