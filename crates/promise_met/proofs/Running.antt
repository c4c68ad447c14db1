-- Each moment of the run is one that its node may make.
use Rattle.std.proofs.Common.{◌≡◌, ℕ, Bool, true, false, cond, Some, None, List, [], ◌∷◌, ◌++◌, refl, ap, sym, ◌∙◌, subst, inl, inr, arith}
use Rattle.std.specs.List.{Contains, IsDistinct}
use Rattle.std.specs.List.Sorted.{IsStrictlySortedBy}
use Rattle.std.specs.Str.{bytes_eq}
use Rattle.std.proofs.lemmas.Slice.Eq.{bytes_eq-Decides}
use Rattle.dh_base.specs.Names.{is_name}
use Rattle.dh_base.specs.declared.outcome.Outcome.TheVariants.{Commit}
use Rattle.act_text.specs.declared.act.Act.TheVariants.{StartDeal, Vote}
use Rattle.act_text.specs.declared.statement.HeldRow.{HeldRow}
use Rattle.key_ring.proofs.MadeRings.{says-made}
use Rattle.cert_core.specs.Sets.{id_of_set}
use Rattle.cert_core.specs.SeatTexts.{prefix_text}
use Rattle.cert_core.specs.Quorums.{IsQuorum}
use Rattle.claim_core.specs.Certificates.{vouched_for, Certifies}
use Rattle.clear_core.specs.declared.plan_act.PlanAct.TheVariants as plan
use Rattle.clear_core.proofs.Moved.{at_head, head_or_tail, none_in_empty}
use Rattle.escrow_book.specs.History.{if_commit_of}
use Rattle.escrow_book.specs.Refused.{settle_refusal}
use Rattle.ledger_rows.specs.Entries.{book_of}
use Rattle.ledger_rows.specs.Scanning.{above_zero, some_of, AreAmounts}
use Rattle.ledger_rows.specs.declared.entry.Entry.{Entry}
use Rattle.ledger_history.specs.Histories.{IsNext}
use Rattle.vote_log.specs.Deciding.{outcome_of}
use Rattle.joined_deals.specs.DealTexts.{planned_act}
use Rattle.payoff.specs.Agents.{AgentState}
use Rattle.payoff.specs.Worlds.{World, LedgerState, IsStatementOf}
use Rattle.payoff.specs.Moments.{Moment, IsRun, IsSigning, IsSettling, after, after_all}
use Rattle.payoff.proofs.Lists.{same_some}
use Rattle.promise_met.specs.Loan.{ann, seed, ident, the_set, coins, coin, the_text, the_deal, rows, ann_gives, register_entry, the_entries, the_log, the_head, the_claim}
use Rattle.compliant_deals.specs.Parts.{act_by}
use Rattle.compliant_deals.specs.Complying.{entry_of}
use Rattle.promise_met.specs.Run.{opening, the_statement, the_moments, settling, the_run}
use Rattle.promise_met.proofs.Dealing.{text_of_deal, due_of_ann, accepted, running, owned, moved, settles_there}
use Rattle.promise_met.proofs.Signing.{joined_agent, registered_agent, ready_agent, said, vote_text_is, start_text_is, signs_first, signs_give, signs_vote}

-- what is found is the one that is there
found : {X : Type 0} (P : X → Type 0) (x y : X) → Some x ≡ Some y → P x → P y
found P x y e p = subst P (same_some x y e) p

-- ---- the statement

abbrev amount : List ℕ → ℕ
amount asset = if_commit_of (book_of rows the_entries) the_deal.id ann asset

amount_is : (asset : List ℕ) → amount asset ≡ cond (bytes_eq asset coin) 2 0
amount_is asset = owned asset ∙ due_of_ann coins asset

the_row : HeldRow
the_row = record { asset = coin; amount = 2 }

amount_of_coin : some_of amount coin ≡ Some 2
amount_of_coin = ap above_zero (amount_is coin)

row_of : (asset : List ℕ) (n : ℕ) → some_of amount asset ≡ Some n → (asset ≡ coin) × (n ≡ 2)
row_of asset n e = by_name (is_name asset) refl e
  where
    by_asset : (b : Bool) → bytes_eq asset coin ≡ b → above_zero (amount asset) ≡ Some n → (asset ≡ coin) × (n ≡ 2)
    by_asset true is e =
        let two : amount asset ≡ 2 = amount_is asset ∙ ap (λ t. cond t 2 0) is in
        ((bytes_eq-Decides asset coin).0 is, same_some n 2 (sym e ∙ ap above_zero two))
    by_asset false is e =
        let none : amount asset ≡ 0 = amount_is asset ∙ ap (λ t. cond t 2 0) is in
        absurd (let f : None ≡ Some n = sym (ap above_zero none) ∙ e in cc)

    by_name : (b : Bool) → is_name asset ≡ b → cond b (above_zero (amount asset)) None ≡ Some n → (asset ≡ coin) × (n ≡ 2)
    by_name true is e = by_asset (bytes_eq asset coin) refl e
    by_name false is e = absurd cc

rows_are : AreAmounts (some_of amount) the_statement.rows
unfolding IsStrictlySortedBy
rows_are = record { ascend = (tt, tt); all = λ row. (there row, back row) }
  where
    there : (row : HeldRow) → Contains the_statement.rows row → some_of amount row.asset ≡ Some row.amount
    there row h = elim (head_or_tail (record { asset = coin; amount = 2 }) [] row h) [
      | inl is ↦ subst (λ (r : HeldRow). some_of amount r.asset ≡ Some r.amount) is amount_of_coin
      | inr none ↦ absurd (none_in_empty row none)
    ]

    back : (row : HeldRow) → some_of amount row.asset ≡ Some row.amount → Contains the_statement.rows row
    back row e =
        let is = row_of row.asset row.amount e in
        let same : record { asset = coin; amount = 2 } ≡ row = (λ i. record { asset = sym is.0 i; amount = sym is.1 i }) in
        subst (λ (r : HeldRow). Contains the_statement.rows r) same (at_head (record { asset = coin; amount = 2 }) [])

abbrev ended_ledger : LedgerState
ended_ledger = record { rows = rows; entries = the_entries }

statement_is : IsStatementOf ended_ledger the_statement
statement_is = record { at = refl; moves = sym moved; rows = rows_are; settled = sym running }

-- ---- the claim

quorum : IsQuorum the_set (vouched_for the_set the_claim) the_claim.sigs
unfolding IsDistinct
quorum = record {
  enough = omega arith;
  different = (tt, tt);
  inside = (omega arith, tt);
  vouched = (record { q = 0; says = says-made seed ident (prefix_text (id_of_set the_set) 3 the_head) 1 0 refl (omega arith) (omega arith) }, tt);
}

pub certified : Certifies the_set the_claim the_set
certified = record { chain = refl; vouched = record { head = refl; quorum = quorum } }

abbrev pub Decides : Type 0
Decides = outcome_of the_log the_deal.id ≡ Some (record { outcome = Commit; at = 2 })

-- ---- the moments

abbrev second : Entry
second = entry_of the_deal (act_by 1 (plan.Escrow coins coin 3)) 0

abbrev third : Entry
third = entry_of the_deal (act_by 1 (plan.Transfer coins 0 0 coin 3)) 1

abbrev fourth : Entry
fourth = entry_of the_deal (act_by 0 ann_gives) 1

pub next_at : (front : List Entry) (entry : Entry) → IsNext coins (book_of rows front) front entry → (ledger : LedgerState) → Some (record { rows = rows; entries = front }) ≡ Some ledger → IsNext coins (book_of ledger.rows ledger.entries) ledger.entries entry
next_at front entry next ledger is = found (λ (l : LedgerState). IsNext coins (book_of l.rows l.entries) l.entries entry) (record { rows = rows; entries = front }) ledger is next

-- a run and what goes on with it
pub run_append : (w : World) (run more : List Moment) → IsRun w run → IsRun (after_all run w) more → IsRun w (run ++ more)
run_append w [] more a b = b
run_append w (moment ∷ run) more a b = (a.0, run_append (after w moment) run more a.1 b)

pub moments_run : IsRun opening the_moments
moments_run =
    let h = accepted.accepted in (
      text_of_deal,
      (
        (λ agent is. found (λ (a : AgentState). IsSigning ann a (planned_act the_deal plan.Register)) joined_agent agent is signs_first),
        (
          (λ agent is. found (λ (a : AgentState). IsSigning ann a (planned_act the_deal ann_gives)) registered_agent agent is signs_give),
          (
            (λ ledger is. next_at [] register_entry h.0 ledger is),
            (
              (λ ledger is. next_at (register_entry ∷ []) second h.1.0 ledger is),
              (
                (λ ledger is. next_at (register_entry ∷ second ∷ []) third h.1.1.0 ledger is),
                (
                  (λ ledger is. next_at (register_entry ∷ second ∷ third ∷ []) fourth h.1.1.1.0 ledger is),
                  (
                    (ended_ledger, refl, statement_is),
                    (
                      at_head the_statement [],
                      (
                        (λ agent is. found (λ (a : AgentState). IsSigning ann a (Vote the_deal.id 0 Commit)) ready_agent agent is signs_vote),
                        (
                          (said (StartDeal the_text) start_text_is, (the_deal, text_of_deal)),
                          (
                            (said (Vote the_deal.id 0 Commit) (vote_text_is 0 (omega arith)), record { deal = the_deal; read = record { read = text_of_deal; carried = at_head the_text _ }; named = refl; party = refl }),
                            (
                              (said (Vote the_deal.id 1 Commit) (vote_text_is 1 (omega arith)), record { deal = the_deal; read = record { read = text_of_deal; carried = at_head the_text _ }; named = refl; party = refl }),
                              tt,
                            ),
                          ),
                        ),
                      ),
                    ),
                  ),
                ),
              ),
            ),
          ),
        ),
      ),
    )

-- the ledger settles the deal by the claim, where it is registered and open
pub settles_by_claim : Decides → (entries : List Entry) → settle_refusal (book_of rows entries) the_deal.id ≡ None → (ledger : LedgerState) → Some (record { rows = rows; entries = entries }) ≡ Some ledger → IsSettling the_set coins ledger the_deal.id the_claim (record { outcome = Commit; at = 2 })
settles_by_claim decides entries next ledger is =
    found (λ (l : LedgerState). IsSettling the_set coins l the_deal.id the_claim (record { outcome = Commit; at = 2 })) (record { rows = rows; entries = entries }) ledger is (record { next = next; set = the_set; certifies = certified; decides = decides })

pub runs : Decides → IsRun opening the_run
runs decides = run_append opening the_moments (settling ∷ []) moments_run ((λ ledger is. settles_by_claim decides the_entries settles_there ledger is), tt)
