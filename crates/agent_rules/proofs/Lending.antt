-- A party that has seen all its due makes its own step, and owns less.
use Rattle.std.proofs.Common.{◌≡◌, ℕ, ◌<◌, cond, ◌&&◌, None, List, [], ◌∷◌, ◌++◌, length, refl, ap, sym, ◌∙◌, subst, arith}
use Rattle.std.specs.List.{Contains}
use Rattle.std.specs.Str.{bytes_eq}
use Rattle.dh_base.specs.declared.outcome.Outcome.TheVariants.{Commit}
use Rattle.escrow_book.specs.declared.change.Change.{Change}
use Rattle.escrow_book.specs.declared.change.Change.TheVariants as change
use Rattle.escrow_book.specs.Opening.{Row}
use Rattle.escrow_book.specs.History.{History, if_commit_of, moves_of, payout_of, settlement_of}
use Rattle.deal_core.specs.Deals.{DealTold}
use Rattle.deal_core.specs.DealText.{IsSpellable}
use Rattle.deal_core.specs.Kept.{IsDeal, IsStepOf}
use Rattle.deal_core.specs.declared.step.Step.{Step}
use Rattle.clear_core.specs.Clearing.{need_of, due_of, incoming, outgoing, turns_of}
use Rattle.clear_core.specs.declared.plan_act.PlanAct.{PlanAct}
use Rattle.clear_core.specs.declared.plan_act.PlanAct.TheVariants as plan
use Rattle.ledger_rows.specs.declared.entry.Entry.{Entry}
use Rattle.ledger_rows.specs.Entries.{book_of, with_read, with_entry}
use Rattle.ledger_history.specs.Histories.{IsTaken, IsNext}
use Rattle.ledger_history.proofs.Fronts.{book_append}
use Rattle.joined_deals.specs.DealTexts.{account_of, planned_act}
use Rattle.joined_deals.proofs.Counted.{itself}
use Rattle.joined_deals.proofs.Elements.{each_of}
use Rattle.compliant_deals.proofs.Reading.{Reads, reads_step}
use Rattle.compliant_deals.proofs.Stages.{book_with, IsStage, step_open, step_stage}
use Rattle.compliant_deals.proofs.Doing.{needed}
use Rattle.compliant_deals.proofs.Fronts.{changes, book_is, stage, front_running, front_owned, front_moved}
use Rattle.agent_rules.specs.Loans.{giving, returning, loan, HasGiven, return_entry}

-- ---- the amounts of the loan

module _ (l x : List ℕ) (n : ℕ) where
  whole_step : cond (bytes_eq l l && bytes_eq x x) n 0 ≡ n
  whole_step = rw (itself l, itself x) refl

  -- what party 0 needs, gets and gives
  pub record AmountsOfLoan : Type 0 where
    pub need : need_of (loan l x n) 0 l x ≡ 0
    pub due : due_of (loan l x n) 0 l x ≡ n
    pub came : incoming (giving l x n ∷ []) 0 l x ≡ n
    pub went : outgoing (giving l x n ∷ []) 0 l x ≡ 0
    pub came_then : incoming (giving l x n ∷ returning l x n ∷ []) 0 l x ≡ n
    pub went_then : outgoing (giving l x n ∷ returning l x n ∷ []) 0 l x ≡ n
    pub no_turn : turns_of (giving l x n ∷ []) 0 l ≡ 0
    pub one_turn : turns_of (loan l x n) 0 l ≡ 1

  pub amounts_of_loan : AmountsOfLoan
  amounts_of_loan = record {
    need = omega (arith, whole_step);
    due = omega (arith, whole_step);
    came = omega (arith, whole_step);
    went = refl;
    came_then = omega (arith, whole_step);
    went_then = omega (arith, whole_step);
    no_turn = refl;
    one_turn = rw (itself l) refl;
  }

module _ (deal : DealTold) (l x : List ℕ) (n : ℕ) (rows : List Row) (entries : List Entry) (q : ℕ) (d : IsDeal deal) (s : IsSpellable deal) (h : HasGiven deal l x n rows entries q) where
  abbrev start : List Step
  start = giving l x n ∷ []

  abbrev step : Step
  step = returning l x n

  abbrev act : PlanAct
  act = plan.Transfer l 0 1 x n

  abbrev cs : List Change
  cs = changes deal start l rows entries d s h.front

  first_party : 0 < length deal.parties
  first_party = omega (arith, d.parties)

  second_party : 1 < length deal.parties
  second_party = omega (arith, d.parties)

  is_step : Contains deal.steps step
  is_step = subst (λ (steps : List Step). Contains steps step) (sym h.steps) (1, omega arith, refl)

  good : IsStepOf (length deal.parties) step
  good = each_of (IsStepOf (length deal.parties)) deal.steps d.kept.between step is_step

  need_is : need_of deal.steps 0 l x ≡ 0
  need_is = ap (λ (steps : List Step). need_of steps 0 l x) h.steps ∙ (amounts_of_loan l x n).need

  due_is : due_of deal.steps 0 l x ≡ n
  due_is = ap (λ (steps : List Step). due_of steps 0 l x) h.steps ∙ (amounts_of_loan l x n).due

  before : IsStage deal d l rows cs (needed deal d s l rows) start
  before = stage deal start l rows entries d s h.front

  behind : IsStage deal d l rows (cs ++ change.Transferred deal.id (account_of deal.parties 0) (account_of deal.parties 1) x n ∷ []) (needed deal d s l rows) (start ++ step ∷ [])
  behind = step_stage deal d l rows cs (needed deal d s l rows) start before step first_party second_party (itself l)

  reads : Reads deal act
  reads = reads_step deal d s step is_step 0 (omega arith) second_party

  pub loan_seen : (settlement_of (book_of rows entries) deal.id ≡ None) × (if_commit_of (book_of rows entries) deal.id (account_of deal.parties 0) x ≡ due_of deal.steps 0 l x)
  loan_seen =
      let amounts = amounts_of_loan l x n in
      let owned = front_owned deal start l rows entries d s h.front 0 x first_party in
      (front_running deal start l rows entries d s h.front, omega (arith, owned, need_is, due_is, amounts.came, amounts.went))

  pub loan_unmoved : moves_of (book_of rows entries) deal.id (account_of deal.parties 0) < turns_of deal.steps 0 l
  loan_unmoved =
      let amounts = amounts_of_loan l x n in
      let turns : turns_of deal.steps 0 l ≡ 1 = ap (λ (steps : List Step). turns_of steps 0 l) h.steps ∙ amounts.one_turn in
      let moved = front_moved deal start l rows entries d s h.front 0 first_party in
      omega (arith, moved, turns, amounts.no_turn)

  taken_there : IsTaken l (book_with rows cs) (account_of deal.parties 0) (planned_act deal act)
  taken_there =
      let amounts = amounts_of_loan l x n in (
        refl,
        step_open deal d l rows cs (needed deal d s l rows) start before step first_party second_party good.different good.some (omega (arith, amounts.came, amounts.went)),
        omega (arith, before.moves 0 first_party, amounts.no_turn),
      )

  pub return_next : IsNext l (book_of rows entries) entries (return_entry deal l x n q)
  return_next = record {
    bytes = reads.bytes;
    new = h.free;
    act = planned_act deal act;
    reads = reads.is;
    taken = subst (λ (b : History). IsTaken l b (account_of deal.parties 0) (planned_act deal act)) (sym (book_is deal start l rows entries d s h.front)) taken_there;
  }

  pub loan_lost : payout_of (book_of rows (entries ++ return_entry deal l x n q ∷ [])) deal.id Commit (account_of deal.parties 0) x < due_of deal.steps 0 l x
  loan_lost =
      let amounts = amounts_of_loan l x n in
      let entry : Entry = return_entry deal l x n q in
      let onward : book_of rows (entries ++ entry ∷ []) ≡ with_entry (book_with rows cs) entry = book_append rows entries (entry ∷ []) ∙ ap (λ (b : History). with_entry b entry) (book_is deal start l rows entries d s h.front) in
      let made = onward ∙ ap (with_read (book_with rows cs) (account_of deal.parties 0)) reads.is in
      let same = ap (λ (b : History). if_commit_of b deal.id (account_of deal.parties 0) x) made in
      omega (arith, same, behind.escrows 0 x first_party, behind.comes 0 x first_party, behind.goes 0 x first_party, amounts.came_then, amounts.went_then, need_is, due_is, good.some)
