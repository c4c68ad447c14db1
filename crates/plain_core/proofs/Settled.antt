-- Each settlement of a run is that of a claim.
use Rattle.std.specs.Option.{unwrap_or}
use Rattle.std.proofs.Common.{◌≡◌, ℕ, ◌≤◌, false, Option, Some, None, List, [], length, refl, sym, ap, subst, ◌∙◌, inl, inr, ◌⊎◌}
use Rattle.std.specs.Prelude.{find, Contains}
use Rattle.std.proofs.lemmas.Bool.{ltb-false}
use Rattle.std.proofs.lemmas.List.Elements.{Contains-push_cases}
use Rattle.dh_base.specs.declared.id.Id.{Id}
use Rattle.dh_base.specs.declared.outcome.Outcome.{Outcome}
use Rattle.dh_base.specs.declared.outcome.Outcome.TheVariants.{Commit as ToCommit, Abort as ToAbort}
use Rattle.escrow_book.specs.declared.change.Change.TheVariants as change
use Rattle.escrow_book.specs.Reached.{IsReached}
use Rattle.plain_script.specs.BoundNames.{members_of}
use Rattle.plain_script.specs.Rules.{DeclareByRules}
use Rattle.plain_script.specs.declared.declaration.Declaration.{Declaration}
use Rattle.plain_script.specs.declared.event.Event.{Event}
use Rattle.plain_script.specs.declared.event.Event.TheVariants.{Register, Escrow, Transfer, Start, Commit, Abort, Claim}
use Rattle.plain_script.specs.Ids.{plain_id}
use Rattle.plain_core.specs.Ledgers.{LedgerTold, World, Step, Answer, act_at, at_ledger, register_answer, escrow_answer, transfer_answer, step_of}
use Rattle.plain_core.specs.Reports.{exceeds, is_out_of_range}
use Rattle.plain_core.specs.OneLog.{Moment, moment_at, IsSettlement, IsRepeat}
use Rattle.plain_core.specs.declared.reply.Reply.{Reply}
use Rattle.plain_core.specs.declared.reply.Reply.TheVariants.{Settled, Already, RefusedAct, RefusedClaim}
use Rattle.plain_core.specs.declared.act_refusal.ActRefusal.TheVariants.{UnknownDeal as UnknownAct}
use Rattle.plain_core.specs.declared.claim_refusal.ClaimRefusal.TheVariants.{UnknownDeal}
use Rattle.plain_core.proofs.Places.{is_named}
use Rattle.plain_core.proofs.Finding.{came_from, found_replies, none_replies, found_there, named_so}
use Rattle.plain_core.proofs.Following.{GrowthLaws, IsQuiet, IsSilent, silent_settled, silent_again, register_quiet, escrow_quiet, transfer_quiet}
use Rattle.plain_core.proofs.Logged.{start_logged, vote_logged}
use Rattle.plain_core.proofs.Settling.{PayLaw, Settles, claim_cases, claim_repeats, claim_at, is_settlement}

-- a ledger of that name had the settlement
pub record HadSettled (ledgers : List LedgerTold) (name : List ℕ) (d : Id) (o : Outcome) : Type 0 where
  pub ledger : LedgerTold
  pub there : Contains ledgers ledger
  pub named : ledger.name ≡ name
  pub settled : Contains ledger.history.changes (change.Settled d o)

-- the moment is a settlement of the deal of that id
pub record Settling (moment : Moment) (name : List ℕ) (d : Id) (o : Outcome) : Type 0 where
  pub deal : List ℕ
  pub is : d ≡ plain_id deal
  pub made : IsSettlement moment name deal o

-- a settlement behind the moment was there before it, or the moment made it; and the reply tells it only where the moment made it
pub record IsSettledBy (moment : Moment) : Type 0 where
  pub settlements : (ledger : LedgerTold) (d : Id) (o : Outcome) → Contains moment.after.ledgers ledger → Contains ledger.history.changes (change.Settled d o) → HadSettled moment.before.ledgers ledger.name d o ⊎ Settling moment ledger.name d o
  pub replies : (o : Outcome) → moment.reply ≡ Settled o → (name deal : List ℕ) × IsSettlement moment name deal o
  pub repeats : (o : Outcome) → moment.reply ≡ Already o → (name deal : List ℕ) × IsRepeat moment name deal o

-- ---- events that settle nothing

quiet_reply : (name : List ℕ) (f : LedgerTold → Answer) (unknown : Reply) (ls : List LedgerTold) → ((l : LedgerTold) → IsSilent (f l).reply) → IsSilent unknown → IsSilent (at_ledger name f unknown ls).reply
quiet_reply name f unknown ls replies silent = by (find (is_named name) ls) refl
  where
    by : (found : Option LedgerTold) → find (is_named name) ls ≡ found → IsSilent (at_ledger name f unknown ls).reply
    by None missing = subst IsSilent (sym (none_replies name f unknown ls missing)) silent
    by (Some old) found = subst IsSilent (sym (found_replies name f unknown ls old found)) (replies old)

quiet_act : (ds : List Declaration) (world : World) (line : ℕ) (event : Event) (name : List ℕ) (f : LedgerTold → Answer) → step_of ds world event ≡ act_at world name f → ((l : LedgerTold) → IsQuiet l (f l)) → IsSettledBy (moment_at ds world (record { line = line; event = event }))
quiet_act ds world line event name f is quiet = record {
  settlements = λ ledger d o there settled. at ledger d o (subst (λ (s : Step). Contains s.world.ledgers ledger) is there) settled;
  replies = λ o e. absurd (silent_settled (step_of ds world event).reply silent o e);
  repeats = λ o e. absurd (silent_again (step_of ds world event).reply silent o e);
}
  where
    silent : IsSilent (step_of ds world event).reply
    silent = subst IsSilent (sym (ap (λ (s : Step). s.reply) is)) (quiet_reply name f (RefusedAct UnknownAct) world.ledgers (λ l. (quiet l).replies) tt)

    at : (ledger : LedgerTold) (d : Id) (o : Outcome) → Contains (at_ledger name f (RefusedAct UnknownAct) world.ledgers).ledgers ledger → Contains ledger.history.changes (change.Settled d o) → HadSettled world.ledgers ledger.name d o ⊎ Settling (moment_at ds world (record { line = line; event = event })) ledger.name d o
    at ledger d o there settled =
        elim (came_from name f (RefusedAct UnknownAct) world.ledgers ledger there) [
          | inl before ↦ inl (record { ledger = ledger; there = before; named = refl; settled = settled })
          | inr found ↦
              let q = quiet found.0 in
              inl (record {
                ledger = found.0;
                there = found.2;
                named = sym (ap (λ (l : LedgerTold). l.name) found.3 ∙ q.follows.name);
                settled = q.settles d o (subst (λ (l : LedgerTold). Contains l.history.changes (change.Settled d o)) found.3 settled);
              })
        ]

logged : (ds : List Declaration) (world : World) (line : ℕ) (event : Event) → (step_of ds world event).world.ledgers ≡ world.ledgers → IsSilent (step_of ds world event).reply → IsSettledBy (moment_at ds world (record { line = line; event = event }))
logged ds world line event same silent = record {
  settlements = λ ledger d o there settled. inl (record { ledger = ledger; there = subst (λ (ls : List LedgerTold). Contains ls ledger) same there; named = refl; settled = settled });
  replies = λ o e. absurd (silent_settled (step_of ds world event).reply silent o e);
  repeats = λ o e. absurd (silent_again (step_of ds world event).reply silent o e);
}

-- ---- claims

in_range : (most : ℕ) (len : Option ℕ) → exceeds most len ≡ false → (n : ℕ) × (len ≡ Some n) × (n ≤ most)
in_range most None e = absurd cc
in_range most (Some n) e = (n, refl, ltb-false most n e)

same_change : (d e : Id) (o p : Outcome) → change.Settled d o ≡ change.Settled e p → (d ≡ e) × (o ≡ p)
same_change d e o p same = (cc, cc)

same_reply : (o p : Outcome) → Settled o ≡ Settled p → o ≡ p
same_reply o p same = cc

claimed : PayLaw → (ds : List Declaration) (world : World) (line : ℕ) (name deal : List ℕ) (len : ℕ) → len ≤ length world.log.entries → ((ledger : LedgerTold) → Contains world.ledgers ledger → IsReached ledger.history) → IsSettledBy (moment_at ds world (record { line = line; event = Claim name deal (Some len) }))
claimed law ds world line name deal len shown reached = record { settlements = settlements; replies = replies; repeats = repeats }
  where
    f : LedgerTold → Answer
    f = claim_at world deal len

    moment : Moment
    moment = moment_at ds world (record { line = line; event = Claim name deal (Some len) })

    makes : (old : LedgerTold) → find (is_named name) world.ledgers ≡ Some old → Contains world.ledgers old → (s : Settles world.log.entries deal len old (f old)) → IsSettlement moment name deal s.outcome
    makes old found there s = is_settlement law ds world line name deal len old shown found (reached old there) s

    made : (old : LedgerTold) (ledger : LedgerTold) (d : Id) (o : Outcome) → find (is_named name) world.ledgers ≡ Some old → Contains world.ledgers old → ledger ≡ (f old).ledger → Contains ledger.history.changes (change.Settled d o) → (old.name ≡ name) → HadSettled world.ledgers ledger.name d o ⊎ Settling moment ledger.name d o
    made old ledger d o found there is settled named =
        elim (claim_cases world.log.entries deal len old) [
          | inl s ↦
              let history = ap (λ (l : LedgerTold). l.history) is ∙ ap (λ (a : Answer). a.ledger.history) s.answer_is in
              let ledger_name : ledger.name ≡ old.name = ap (λ (l : LedgerTold). l.name) is ∙ ap (λ (a : Answer). a.ledger.name) s.answer_is in
              elim (Contains-push_cases old.history.changes (change.Settled (plain_id deal) s.outcome) (change.Settled d o) (subst (λ h. Contains h.changes (change.Settled d o)) history settled)) [
                | inl before ↦ inl (record { ledger = old; there = there; named = sym ledger_name; settled = before })
                | inr new ↦
                    let same = same_change (plain_id deal) d s.outcome o new in
                    inr (record {
                      deal = deal;
                      is = sym same.0;
                      made = subst (λ n. IsSettlement moment n deal o) (sym (ledger_name ∙ named)) (subst (λ p. IsSettlement moment name deal p) same.1 (makes old found there s));
                    })
              ]
          | inr l ↦
              let back : ledger ≡ old = is ∙ l.same in
              inl (record { ledger = old; there = there; named = sym (ap (λ (l : LedgerTold). l.name) back); settled = subst (λ (l : LedgerTold). Contains l.history.changes (change.Settled d o)) back settled })
        ]

    settlements : (ledger : LedgerTold) (d : Id) (o : Outcome) → Contains moment.after.ledgers ledger → Contains ledger.history.changes (change.Settled d o) → HadSettled world.ledgers ledger.name d o ⊎ Settling moment ledger.name d o
    settlements ledger d o there settled =
        elim (came_from name f (RefusedClaim UnknownDeal) world.ledgers ledger there) [
          | inl before ↦ inl (record { ledger = ledger; there = before; named = refl; settled = settled })
          | inr found ↦ made found.0 ledger d o found.1 found.2 found.3 settled (named_so name world.ledgers found.0 found.1)
        ]

    by_claim : (old : LedgerTold) (o : Outcome) → find (is_named name) world.ledgers ≡ Some old → moment.reply ≡ Settled o → (n k : List ℕ) × IsSettlement moment n k o
    by_claim old o found e =
        let reply : (f old).reply ≡ Settled o = sym (found_replies name f (RefusedClaim UnknownDeal) world.ledgers old found) ∙ e in
        elim (claim_cases world.log.entries deal len old) [
          | inl s ↦
              let same : s.outcome ≡ o = same_reply s.outcome o (sym (ap (λ (a : Answer). a.reply) s.answer_is) ∙ reply) in
              (name, deal, subst (λ p. IsSettlement moment name deal p) same (makes old found (found_there name world.ledgers old found) s))
          | inr l ↦ absurd (l.replies o reply)
        ]

    replies : (o : Outcome) → moment.reply ≡ Settled o → (n k : List ℕ) × IsSettlement moment n k o
    replies o e = by (find (is_named name) world.ledgers) refl
      where
        by : (found : Option LedgerTold) → find (is_named name) world.ledgers ≡ found → (n k : List ℕ) × IsSettlement moment n k o
        by None missing = let clash : RefusedClaim UnknownDeal ≡ Settled o = sym (none_replies name f (RefusedClaim UnknownDeal) world.ledgers missing) ∙ e in absurd cc
        by (Some old) found = by_claim old o found e

    repeats : (o : Outcome) → moment.reply ≡ Already o → (n k : List ℕ) × IsRepeat moment n k o
    repeats o e = by (find (is_named name) world.ledgers) refl
      where
        by : (found : Option LedgerTold) → find (is_named name) world.ledgers ≡ found → (n k : List ℕ) × IsRepeat moment n k o
        by None missing = let clash : RefusedClaim UnknownDeal ≡ Already o = sym (none_replies name f (RefusedClaim UnknownDeal) world.ledgers missing) ∙ e in absurd cc
        by (Some old) found =
            let settled = claim_repeats world.log.entries deal len old o (sym (found_replies name f (RefusedClaim UnknownDeal) world.ledgers old found) ∙ e) in
            (name, deal, record { len = Some len; claimed = refl; before = old; found = found; settled = settled; replied = e })

-- ---- every event

pub settled_by : GrowthLaws → PayLaw → (ds : List Declaration) → DeclareByRules [] ds → (world : World) (line : ℕ) (event : Event) → is_out_of_range world event ≡ false → ((ledger : LedgerTold) → Contains world.ledgers ledger → IsReached ledger.history) → IsSettledBy (moment_at ds world (record { line = line; event = event }))
settled_by laws law ds keep world line (Register ledger deal party) range reached = quiet_act ds world line (Register ledger deal party) ledger (register_answer (members_of ds deal) deal party) refl (register_quiet laws ds deal party keep)
settled_by laws law ds keep world line (Escrow ledger deal party asset amount) range reached = quiet_act ds world line (Escrow ledger deal party asset amount) ledger (escrow_answer deal party asset amount) refl (escrow_quiet laws deal party asset amount)
settled_by laws law ds keep world line (Transfer ledger deal from turn to asset amount) range reached = quiet_act ds world line (Transfer ledger deal from turn to asset amount) ledger (transfer_answer deal from (unwrap_or turn 0) to asset amount) refl (transfer_quiet laws deal from (unwrap_or turn 0) to asset amount)
settled_by laws law ds keep world line (Start deal party) range reached = logged ds world line (Start deal party) refl (start_logged (members_of ds deal) deal party world.log).replies
settled_by laws law ds keep world line (Commit deal party) range reached = logged ds world line (Commit deal party) refl (vote_logged (members_of ds deal) ToCommit deal party world.log).replies
settled_by laws law ds keep world line (Abort deal party) range reached = logged ds world line (Abort deal party) refl (vote_logged (members_of ds deal) ToAbort deal party world.log).replies
settled_by laws law ds keep world line (Claim name deal len) range reached =
    let n = in_range (length world.log.entries) len range in
    subst (λ (l : Option ℕ). IsSettledBy (moment_at ds world (record { line = line; event = Claim name deal l }))) (sym n.1) (claimed law ds world line name deal n.0 n.2 reached)
