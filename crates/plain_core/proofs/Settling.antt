-- What a claim does: it settles its deal where its prefix of the log decides it, and nothing otherwise.
use Rattle.std.proofs.Common.{◌≡◌, ℕ, ◌+◌, ◌≤◌, Bool, true, false, cond, Option, Some, None, List, length, take, refl, sym, ap, subst, ◌∙◌, inl, inr, ◌⊎◌}
use Rattle.std.specs.Prelude.{find}
use Rattle.dh_base.specs.declared.id.Id.{Id}
use Rattle.dh_base.specs.declared.outcome.Outcome.{Outcome}
use Rattle.dh_base.specs.declared.outcome.Outcome.TheVariants.{Commit, Abort}
use Rattle.escrow_book.specs.declared.change.Change.TheVariants as change
use Rattle.escrow_book.specs.History.{History, with_change, is_known, settlement_of, payout_of, free_of}
use Rattle.escrow_book.specs.Reached.{IsReached}
use Rattle.escrow_book.specs.Refused.{settle_refusal}
use Rattle.vote_log.specs.declared.decision.Decision.{Decision}
use Rattle.vote_log.specs.Entry.{Entry}
use Rattle.vote_log.specs.Deciding.{outcome_of}
use Rattle.plain_script.specs.declared.declaration.Declaration.{Declaration}
use Rattle.plain_script.specs.declared.event.Event.TheVariants.{Claim}
use Rattle.plain_script.specs.Ids.{plain_id}
use Rattle.plain_core.specs.Ledgers.{LedgerTold, World, Answer, with_entry, refuses, claim_decided, claim_found, claim_answer, at_ledger}
use Rattle.plain_core.specs.OneLog.{moment_at, IsOutcome, IsOpen, PaysOut, IsSettlement}
use Rattle.plain_core.specs.declared.reply.Reply.TheVariants.{Settled, Already, RefusedClaim}
use Rattle.plain_core.specs.declared.claim_refusal.ClaimRefusal.TheVariants.{UnknownDeal, Undecided}
use Rattle.plain_core.proofs.Places.{is_named}
use Rattle.plain_core.proofs.Finding.{found_replies, found_after}
use Rattle.plain_core.proofs.Following.{GrowthLaws, Follows, stays, takes, TellsNoSettlement}

-- ---- one ledger

-- the claim settles the deal
pub record Settles (entries : List Entry) (deal : List ℕ) (len : ℕ) (old : LedgerTold) (answer : Answer) : Type 0 where
  pub outcome : Outcome
  pub decided : IsOutcome (take len entries) (plain_id deal) outcome
  pub «open» : IsOpen old.history (plain_id deal)
  pub answer_is : answer ≡ record { reply = Settled outcome; ledger = with_entry old (with_change old.history (change.Settled (plain_id deal) outcome)) }

-- the ledger stays as it is
pub record LeavesAlone (old : LedgerTold) (answer : Answer) : Type 0 where
  pub same : answer.ledger ≡ old
  pub replies : TellsNoSettlement answer.reply

pub claim_cases : (entries : List Entry) (deal : List ℕ) (len : ℕ) (old : LedgerTold) → Settles entries deal len old (claim_answer entries deal len old) ⊎ LeavesAlone old (claim_answer entries deal len old)
claim_cases entries deal len old = by_known (is_known old.history (plain_id deal)) refl
  where
    by_found : (decided : Option Decision) → outcome_of (take len entries) (plain_id deal) ≡ decided → is_known old.history (plain_id deal) ≡ true → settlement_of old.history (plain_id deal) ≡ None → claim_answer entries deal len old ≡ claim_decided old (plain_id deal) len decided → Settles entries deal len old (claim_answer entries deal len old) ⊎ LeavesAlone old (claim_answer entries deal len old)
    by_found None decides known unsettled is = inr (record { same = ap (λ (a : Answer). a.ledger) is; replies = λ o e. let clash : RefusedClaim (Undecided len) ≡ Settled o = sym (ap (λ (a : Answer). a.reply) is) ∙ e in absurd cc })
    by_found (Some decision) decides known unsettled is = inl (record {
      outcome = decision.outcome;
      decided = (decision.at, decides);
      «open» = record { registered = known; unsettled = unsettled };
      answer_is = is;
    })

    by_settled : (settled : Option Outcome) → settlement_of old.history (plain_id deal) ≡ settled → is_known old.history (plain_id deal) ≡ true → claim_answer entries deal len old ≡ claim_found old (plain_id deal) len settled (outcome_of (take len entries) (plain_id deal)) → Settles entries deal len old (claim_answer entries deal len old) ⊎ LeavesAlone old (claim_answer entries deal len old)
    by_settled (Some outcome) ended known is = inr (record { same = ap (λ (a : Answer). a.ledger) is; replies = λ o e. let clash : Already outcome ≡ Settled o = sym (ap (λ (a : Answer). a.reply) is) ∙ e in absurd cc })
    by_settled None unsettled known is = by_found (outcome_of (take len entries) (plain_id deal)) refl known unsettled is

    by_known : (b : Bool) → is_known old.history (plain_id deal) ≡ b → Settles entries deal len old (claim_answer entries deal len old) ⊎ LeavesAlone old (claim_answer entries deal len old)
    by_known false unknown =
        let is : claim_answer entries deal len old ≡ refuses old (RefusedClaim UnknownDeal) = ap (λ b. cond b (claim_found old (plain_id deal) len (settlement_of old.history (plain_id deal)) (outcome_of (take len entries) (plain_id deal))) (refuses old (RefusedClaim UnknownDeal))) unknown in
        inr (record { same = ap (λ (a : Answer). a.ledger) is; replies = λ o e. let clash : RefusedClaim UnknownDeal ≡ Settled o = sym (ap (λ (a : Answer). a.reply) is) ∙ e in absurd cc })
    by_known true known =
        by_settled (settlement_of old.history (plain_id deal)) refl known
        (ap (λ b. cond b (claim_found old (plain_id deal) len (settlement_of old.history (plain_id deal)) (outcome_of (take len entries) (plain_id deal))) (refuses old (RefusedClaim UnknownDeal))) known)

-- a claim is answered that its deal is settled already only where it is
pub claim_repeats : (entries : List Entry) (deal : List ℕ) (len : ℕ) (old : LedgerTold) (outcome : Outcome) → (claim_answer entries deal len old).reply ≡ Already outcome → settlement_of old.history (plain_id deal) ≡ Some outcome
claim_repeats entries deal len old outcome e = at (is_known old.history (plain_id deal)) (settlement_of old.history (plain_id deal)) (outcome_of (take len entries) (plain_id deal)) e
  where
    at : (known : Bool) (settled : Option Outcome) (decided : Option Decision) → (cond known (claim_found old (plain_id deal) len settled decided) (refuses old (RefusedClaim UnknownDeal))).reply ≡ Already outcome → settled ≡ Some outcome
    at false settled decided told = absurd cc
    at true (Some o) decided told = let same : o ≡ outcome = cc in ap (λ (p : Outcome). Some p) same
    at true None None told = absurd cc
    at true None (Some decision) told = absurd cc

-- an open deal that the prefix decides is settled
pub claim_settles : (entries : List Entry) (deal : List ℕ) (len : ℕ) (old : LedgerTold) (outcome : Outcome) → IsOpen old.history (plain_id deal) → IsOutcome (take len entries) (plain_id deal) outcome → (claim_answer entries deal len old).reply ≡ Settled outcome
claim_settles entries deal len old outcome running decided = rw (running.registered, running.unsettled, decided.1) refl

free_to_settle : (h : History) (d : Id) → IsOpen h d → settle_refusal h d ≡ None
free_to_settle h d running = rw (running.registered, running.unsettled) refl

pub claim_follows : GrowthLaws → (entries : List Entry) (deal : List ℕ) (len : ℕ) (old : LedgerTold) → Follows old (claim_answer entries deal len old).ledger
claim_follows laws entries deal len old =
    elim (claim_cases entries deal len old) [
      | inl s ↦
          subst (λ (a : Answer). Follows old a.ledger) (sym s.answer_is)
          (takes old (change.Settled (plain_id deal) s.outcome) (λ reached few. laws.settle old.history (plain_id deal) s.outcome reached (free_to_settle old.history (plain_id deal) s.«open»)))
      | inr l ↦ subst (Follows old) (sym l.same) (stays old)
    ]

-- ---- the moment

-- what is known of a settlement: its payout stands in the free amount
abbrev pub PayLaw : Type 0
PayLaw = (h : History) (d p : Id) (x : List ℕ) (outcome : Outcome) → IsReached h → settle_refusal h d ≡ None → free_of (with_change h (change.Settled d outcome)) p x ≡ free_of h p x + payout_of h d outcome p x

pays_out : PayLaw → (h : History) (d : Id) (outcome : Outcome) → IsReached h → IsOpen h d → PaysOut outcome h (with_change h (change.Settled d outcome)) d
pays_out law h d Commit reached running = λ p x. law h d p x Commit reached (free_to_settle h d running)
pays_out law h d Abort reached running = λ p x. law h d p x Abort reached (free_to_settle h d running)

-- the claim at this moment, with this many entries shown
abbrev pub claim_at : World → List ℕ → ℕ → LedgerTold → Answer
claim_at world deal len = claim_answer world.log.entries deal len

pub is_settlement : PayLaw → (ds : List Declaration) (world : World) (line : ℕ) (name deal : List ℕ) (len : ℕ) (old : LedgerTold) → len ≤ length world.log.entries → find (is_named name) world.ledgers ≡ Some old → IsReached old.history → (s : Settles world.log.entries deal len old (claim_at world deal len old)) → IsSettlement (moment_at ds world (record { line = line; event = Claim name deal (Some len) })) name deal s.outcome
is_settlement law ds world line name deal len old shown found reached s =
    let f : LedgerTold → Answer = claim_at world deal len in
    let kept : (f old).ledger.name ≡ old.name = ap (λ (a : Answer). a.ledger.name) s.answer_is in
    let after : find (is_named name) (at_ledger name f (RefusedClaim UnknownDeal) world.ledgers).ledgers ≡ Some (f old).ledger = found_after name f (RefusedClaim UnknownDeal) world.ledgers old found kept in
    record {
      len = len;
      claimed = refl;
      shown = shown;
      decided = s.decided;
      before = old;
      found = found;
      «open» = s.«open»;
      replied = found_replies name f (RefusedClaim UnknownDeal) world.ledgers old found ∙ ap (λ (a : Answer). a.reply) s.answer_is;
      after = (f old).ledger;
      left = after;
      entered = ap (λ (a : Answer). a.ledger.history) s.answer_is;
      paid = subst (λ (h : History). PaysOut s.outcome old.history h (plain_id deal)) (sym (ap (λ (a : Answer). a.ledger.history) s.answer_is)) (pays_out law old.history (plain_id deal) s.outcome reached s.«open»);
    }
