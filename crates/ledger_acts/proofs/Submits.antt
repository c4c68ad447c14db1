-- An envelope is answered by the ledger's step.
use Rattle.std.proofs.Common.{◌≡◌, ◌⊎◌, ◌↔◌, ℕ, Bool, true, false, cond, nat_le, ◌+◌, ◌<◌, ◌≤◌, ◌^◌, List, [], length, Option, Some, None, IsSome, Result, Ok, Err, inl, inr, refl, sym, ap, subst, ◌∙◌, arith}
use Rattle.sha2.proofs.Facts256.{length-sha256}
use Rattle.sha2.specs.Sha256.{sha256}
use Rattle.dh_base.specs.declared.id.Id.{Id}
use Rattle.act_text.specs.declared.act.Act.{Act as Asked}
use Rattle.act_text.specs.declared.act_fault.ActFault.{ActFault}
use Rattle.act_text.specs.declared.act_fault.ActFault.TheVariants as unread
use Rattle.act_text.specs.declared.act.Act.TheVariants as act
use Rattle.act_text.specs.declared.office.Office.TheVariants.{Ledger}
use Rattle.act_text.specs.ActReading.{act_of, Gives}
use Rattle.act_text.specs.ActTexts.{office_of, kind_of, ActFits}
use Rattle.keeper_core.specs.declared.change.Change.{Change}
use Rattle.keeper_core.specs.declared.store_fault.StoreFault.TheVariants as store
use Rattle.keeper_core.specs.Tables.{Tables}
use Rattle.keeper_core.specs.Knowing.{Known}
use Rattle.keeper_core.specs.Leaving.{Ended, done, failed, refused}
use Rattle.keeper_core.specs.Stepping.{IsRefusal, Backs}
use Rattle.keeper_core.proofs.Leaving.{if_some, not_asked}
use Rattle.key_ring.specs.declared.env_fault.EnvFault.{EnvFault}
use Rattle.key_ring.specs.declared.envelope.Envelope.{Envelope}
use Rattle.key_ring.specs.declared.env_fault.EnvFault.TheVariants as fault
use Rattle.key_ring.specs.declared.said.Said.{Said as SaidBy}
use Rattle.key_ring.specs.Answering.{IsAnswer, is_signed_by, said_with, said_of}
use Rattle.key_ring.specs.Rings.{Ring, ring_of}
use Rattle.key_ring.specs.Saying.{Says, IsKeyOutside, IsBadlySigned}
use Rattle.ledger_rows.specs.declared.entry.Entry.{Entry}
use Rattle.ledger_acts.specs.declared.ledger_fault.LedgerFault.{LedgerFault}
use Rattle.ledger_acts.specs.declared.ledger_fault.LedgerFault.TheVariants.{BadEnvelope, BadAct, Store}
use Rattle.ledger_acts.specs.declared.ledger_id.LedgerId.{LedgerId}
use Rattle.ledger_acts.specs.declared.place.Place.{Place}
use Rattle.ledger_acts.specs.declared.movement.Movement.{Movement}
use Rattle.ledger_acts.specs.declared.movement.Movement.TheVariants.{Payment, Escrow, Transfer}
use Rattle.ledger_acts.specs.Movements.{movement_of, movement_looks}
use Rattle.ledger_acts.specs.LedgerFaults.{of_ledger_fault, ledger_fault_of_act}
use Rattle.ledger_acts.specs.LedgerState.{IsState}
use Rattle.ledger_acts.specs.LedgerStep.{Opened, MessageSteps, Unsaid, Said}
use Rattle.ledger_acts.specs.ByRows.{IsCause, ByRows}
use Rattle.ledger_acts.specs.Steps.{StepsByAct, IsCutShort, ActsByStep, Replies, StepsByEnvelope, SubmitsByStep, LeavesByRows, through}
use Rattle.ledger_acts.proofs.Answering.{few_looks, more_looks}
use Rattle.ledger_acts.proofs.MovesOnce.{always_told}

-- ---- what is left, whatever is told

pub left_by : (looks : ℕ) (tab : Option ℕ) (refusal : Tables → Option LedgerFault) (batches : Tables → List (List Change)) (IsAnswer : Tables → ℕ → Type 0) (result : Result ℕ LedgerFault) (before after : Known) →
    looks ≤ 8 → ByRows looks tab refusal batches IsAnswer result before after → LeavesByRows tab result before after
left_by looks tab refusal batches IsAnswer result before after few by = record {
  batches = by.leaves.batches;
  leaves = by.leaves.leaves;
  cause = by.cause;
  looked = more_looks looks 8 tab before after few by.looked;
}

-- where the keeper isn't asked
pub untouched : (tab : Option ℕ) (fault : LedgerFault) (known : Known) → (of_ledger_fault fault ≡ failed → ⊥) → (of_ledger_fault fault ≡ done → ⊥) → IsCause known.tables fault → LeavesByRows tab (Err fault) known known
untouched tab fault known no_failure not_done cause = record {
  batches = [];
  leaves = not_asked (of_ledger_fault fault) [] known no_failure (λ e. absurd (not_done e));
  cause = cause;
  looked = few_looks 0 8 tab known known (omega arith) (omega arith, omega arith);
}

pub unread_left : (tab : Option ℕ) (fault : ActFault) (known : Known) → LeavesByRows tab (Err (ledger_fault_of_act fault)) known known
unread_left tab unread.BadTag known = untouched tab (BadAct unread.BadTag) known (λ e. absurd cc) (λ e. absurd cc) tt
unread_left tab (unread.Short at) known = untouched tab (BadAct (unread.Short at)) known (λ e. absurd cc) (λ e. absurd cc) tt
unread_left tab (unread.BadField at) known = untouched tab (BadAct (unread.BadField at)) known (λ e. absurd cc) (λ e. absurd cc) tt
unread_left tab (unread.Trailing at) known = untouched tab (BadAct (unread.Trailing at)) known (λ e. absurd cc) (λ e. absurd cc) tt
unread_left tab unread.NoMemory known = untouched tab (Store store.NoMemory) known (λ e. absurd cc) (λ e. absurd cc) tt

-- ---- the step

-- a refusal before the keeper is asked
refused_now : (opened : Opened) (entries : List Entry) (fault : LedgerFault) (known : Known) → of_ledger_fault fault ≡ refused → Backs (IsState opened) known.tables entries → Replies opened entries (Err fault) entries (Err fault) known known
refused_now opened entries fault known how stands = record {
  reply = always_told _ known.tables (subst (λ (h : Ended). IsRefusal h (Some fault) fault) (sym how) refl);
  accepted = tt;
  unchanged = λ same. stands;
  stopped = inl stands;
}

-- an answer that no check gives
abbrev is_other : Result SaidBy EnvFault → Bool
is_other (Err (fault.BadForm at)) = true
is_other (Err fault.NoMemory) = true
is_other _ = false

none_other : (env : Envelope) (read : Result Ring ℕ) → is_other (said_with env read) ≡ false
none_other env (Err at) = refl
none_other env (Ok ring) = go (nat_le (length ring.keys) env.q) (is_signed_by ring env)
  where
    go : (outside signed : Bool) → is_other
        (cond outside (Err (fault.KeyOutside env.q (length ring.keys)))
        (cond signed (Ok (record { account = record { 0 = sha256 env.ring }; q = env.q })) (Err fault.BadSignature))) ≡ false
    go true signed = refl
    go false true = refl
    go false false = refl

-- why an envelope says nothing, by its check
pub unsaid_answer : (env : Envelope) (why : EnvFault) → (answer : Result SaidBy EnvFault) → answer ≡ Err why
    → ((at : ℕ) → (answer ≡ Err (fault.BadRing at)) ↔ (ring_of env.ring ≡ Err at))
    → ((q n : ℕ) → (answer ≡ Err (fault.KeyOutside q n)) ↔ IsKeyOutside env q n)
    → ((answer ≡ Err fault.BadSignature) ↔ IsBadlySigned env) → answer ≡ said_of env → IsAnswer env (Err why)
unsaid_answer env (fault.BadRing at) answer is ring key signature exact = (ring at).0 is
unsaid_answer env (fault.KeyOutside q n) answer is ring key signature exact = (key q n).0 is
unsaid_answer env fault.BadSignature answer is ring key signature exact = signature.0 is
unsaid_answer env (fault.BadForm at) answer is ring key signature exact =
    let both : true ≡ false = ap is_other (sym is ∙ exact) ∙ none_other env (ring_of env.ring) in absurd cc
unsaid_answer env fault.NoMemory answer is ring key signature exact =
    let both : true ≡ false = ap is_other (sym is ∙ exact) ∙ none_other env (ring_of env.ring) in absurd cc

pub unsaid : (ledger : LedgerId) (place : Place) (env : Envelope) (fault : EnvFault) (known : Known) → IsAnswer env (Err fault) → SubmitsByStep ledger place env (Err (BadEnvelope fault)) known known
unsaid ledger place env fault known answer opened entries stands next = always_told _ known.tables (inl (record {
  reply = Err (BadEnvelope fault);
  later = entries;
  step = Unsaid fault answer refl refl;
  replies = refused_now opened entries (BadEnvelope fault) known refl stands;
}))

module _ (ledger : LedgerId) (place : Place) (env : Envelope) (account : Id) (q : ℕ) (says : Says env account.0 q env.message) where
  bad_act : (fault : ActFault) (known : Known) → act_of Ledger env.message ≡ Err fault → SubmitsByStep ledger place env (Err (BadAct fault)) known known
  bad_act fault known read opened entries stands next = always_told _ known.tables (inl (record {
    reply = Err (BadAct fault);
    later = entries;
    step = Said account q says (subst (λ (r : Result Asked ActFault). MessageSteps opened entries account q env.message r (Err (BadAct fault)) entries) (sym read) (refl, refl));
    replies = refused_now opened entries (BadAct fault) known refl stands;
  }))

  pub unread_step : (fault : ActFault) (known : Known) → Gives {A = Asked} (Err fault) (act_of Ledger env.message) → SubmitsByStep ledger place env (Err (ledger_fault_of_act fault)) known known
  unread_step unread.BadTag known read = bad_act unread.BadTag known read
  unread_step (unread.Short at) known read = bad_act (unread.Short at) known read
  unread_step (unread.BadField at) known read = bad_act (unread.BadField at) known read
  unread_step (unread.Trailing at) known read = bad_act (unread.Trailing at) known read
  unread_step unread.NoMemory known read = λ opened entries stands next. always_told _ known.tables (inr (record { fault = Store store.NoMemory; ended = refl; by = inr refl; stands = stands }))

  account_wide : length account.0 ≡ 32
  account_wide = ap length says.account_is ∙ length-sha256 env.ring

  small_key : q < 2 ^ 32
  small_key = omega (arith, says.key, says.has.formed.few)

  pub act_step : (asked : Asked) (result : Result ℕ LedgerFault) (before after : Known) → act_of Ledger env.message ≡ Ok asked → ActFits asked → ActsByStep ledger place account q env.message asked result before after → SubmitsByStep ledger place env result before after
  act_step asked result before after reads fits by opened entries stands next =
      if_some after.tables _ _ (λ tables either. go either) (by opened entries stands next account_wide small_key reads fits)
    where
      go : StepsByAct opened entries account q env.message asked result before after ⊎ IsCutShort opened entries result after → StepsByEnvelope opened entries env result before after ⊎ IsCutShort opened entries result after
      go (inl s) = inl (record {
        reply = s.reply;
        later = s.later;
        step = Said account q says (subst (λ (r : Result Asked ActFault). MessageSteps opened entries account q env.message r s.reply s.later) (sym reads) s.step);
        replies = s.replies;
      })
      go (inr cut) = inr cut

-- ---- which kind of act it is

pub few_rows : (movement : Movement) → 1 + movement_looks movement ≤ 8
few_rows (Payment from to asset amount) = omega arith
few_rows (Escrow deal party asset amount) = omega arith
few_rows (Transfer deal from turn to asset amount) = omega arith

-- a ledger's act that registers nothing moves something, and goes through no table
pub moves_else : (account : Id) (asked : Asked) → office_of (kind_of asked) ≡ Ledger → ((text : List ℕ) → asked ≡ act.Register text → ⊥) → IsSome (movement_of account asked) × (through (Ok asked) ≡ None)
moves_else account (act.Register text) office not = absurd (not text refl)
moves_else account (act.Pay house ledger to asset amount) office not = (refl, refl)
moves_else account (act.Escrow deal ledger asset amount) office not = (refl, refl)
moves_else account (act.Transfer deal ledger turn to asset amount) office not = (refl, refl)
moves_else account (act.StartDeal text) office not = absurd cc
moves_else account (act.Vote deal index choice) office not = absurd cc
