-- All parties do their parts: each act is taken, and comes to the next stage.
use Rattle.std.proofs.Common.{◌≡◌, ℕ, zero, suc, ◌+◌, ◌<◌, ◌≤◌, ◌==◌, nat_lt, Bool, true, false, cond, ◌&&◌, IsTrue, None, List, [], ◌∷◌, ◌++◌, map, length, refl, ap, sym, ◌∙◌, subst, arith, append_assoc, append-nil}
use Rattle.std.specs.List.{Contains, flat_map}
use Rattle.std.specs.Str.{bytes_eq}
use Rattle.std.proofs.lemmas.Bool.{eqb-true, eqb-false, eq-eqb, lt-ltb, le-ltb, ltb-true, ltb-false}
use Rattle.std.proofs.lemmas.List.Sums.{sum_by-cons}
use Rattle.std.proofs.lemmas.Slice.Eq.{bytes_eq-Decides}
use Rattle.dh_base.specs.declared.id.Id.{Id}
use Rattle.dh_base.proofs.SameIds.{same_id-self}
use Rattle.escrow_book.specs.declared.change.Change.{Change}
use Rattle.escrow_book.specs.declared.change.Change.TheVariants as change
use Rattle.escrow_book.specs.Opening.{Row, opening_of}
use Rattle.escrow_book.specs.History.{History, is_in}
use Rattle.escrow_book.specs.Reached.{are_parties}
use Rattle.escrow_book.specs.Refused.{transfer_refusal}
use Rattle.deal_core.specs.Deals.{DealTold}
use Rattle.deal_core.specs.DealText.{deal_text, IsSpellable}
use Rattle.deal_core.specs.Drafts.{accounts_in, parties_in}
use Rattle.deal_core.specs.Kept.{IsDeal, IsStepOf}
use Rattle.deal_core.specs.declared.step.Step.{Step}
use Rattle.deal_core.proofs.TextAgain.{text_again}
use Rattle.clear_core.specs.Clearing.{incoming, outgoing, need_of, turns_of}
use Rattle.clear_core.specs.Plans.{plan_of, escrowed, escrowed_in}
use Rattle.clear_core.specs.declared.plan_act.PlanAct.{PlanAct}
use Rattle.clear_core.specs.declared.plan_act.PlanAct.TheVariants as plan
use Rattle.clear_core.proofs.Escrowed.{escrowed_is_need}
use Rattle.clear_core.proofs.Moved.{at_head, in_tail}
use Rattle.clear_core.proofs.Totals.{plan_total}
use Rattle.ledger_rows.specs.Entries.{digest_of, with_act}
use Rattle.ledger_history.specs.Histories.{IsTaken}
use Rattle.joined_deals.specs.DealTexts.{account_of, planned_act}
use Rattle.joined_deals.proofs.Counted.{itself}
use Rattle.joined_deals.proofs.Elements.{in_back, each_of}
use Rattle.compliant_deals.specs.Complying.{IsFunded}
use Rattle.compliant_deals.specs.Parts.{PartyAct, act_by, escrow_on, escrows_on, transfer_on, transfers_on, acts_on}
use Rattle.compliant_deals.proofs.Accounts.{accounts_of, is_account, good_parties}
use Rattle.compliant_deals.proofs.Funded.{step_funded, few_turns}
use Rattle.compliant_deals.proofs.Reading.{Reads, reads_register, reads_planned, reads_step}
use Rattle.compliant_deals.proofs.Stages.{book_with, IsStage, same_put, escrow_open, escrow_stage, put_more, step_open, step_stage, skip_stage}

module _ (deal : DealTold) (d : IsDeal deal) (s : IsSpellable deal) (l : List ℕ) (rows : List Row) where
  abbrev pub Stage : List Change → (ℕ → List ℕ → ℕ) → List Step → Type 0
  Stage cs put before = IsStage deal d l rows cs put before

  -- the change that the act makes
  abbrev pub change_by : ℕ → PlanAct → Change
  change_by k plan.Register = change.Registered deal.id (accounts_of deal)
  change_by k (plan.Escrow on x n) = change.Escrowed deal.id (account_of deal.parties k) x n
  change_by k (plan.Transfer on turn to x n) = change.Transferred deal.id (account_of deal.parties k) (account_of deal.parties to) x n

  abbrev pub change_of : PartyAct → Change
  change_of done = change_by done.party done.act

  -- Behind these changes the ledger takes the act, which is read from its text and makes its change.
  pub record IsFine (cs : List Change) (done : PartyAct) : Type 0 where
    pub party : done.party < length deal.parties
    pub reads : Reads deal done.act
    pub taken : IsTaken l (book_with rows cs) (account_of deal.parties done.party) (planned_act deal done.act)
    pub grows : with_act (book_with rows cs) (account_of deal.parties done.party) (planned_act deal done.act) ≡ book_with rows (cs ++ change_of done ∷ [])

  abbrev pub AreFine : List Change → List PartyAct → Type 0
  AreFine cs [] = Unit {0}
  AreFine cs (done ∷ acts) = IsFine cs done × AreFine (cs ++ change_of done ∷ []) acts

  -- the changes with those of the acts
  abbrev pub changes_behind : List Change → List PartyAct → List Change
  changes_behind cs [] = cs
  changes_behind cs (done ∷ acts) = changes_behind (cs ++ change_of done ∷ []) acts

  -- each of the acts is taken, and they come to this stage
  pub record Done (cs : List Change) (acts : List PartyAct) (put : ℕ → List ℕ → ℕ) (before : List Step) : Type 0 where
    pub fine : AreFine cs acts
    pub stage : Stage (changes_behind cs acts) put before

  fine_append : (cs : List Change) (xs ys : List PartyAct) → AreFine cs xs → AreFine (changes_behind cs xs) ys → AreFine cs (xs ++ ys)
  fine_append cs [] ys a c = c
  fine_append cs (x ∷ xs) ys a c = (a.0, fine_append (cs ++ change_of x ∷ []) xs ys a.1 c)

  behind_append : (cs : List Change) (xs ys : List PartyAct) → changes_behind cs (xs ++ ys) ≡ changes_behind (changes_behind cs xs) ys
  behind_append cs [] ys = refl
  behind_append cs (x ∷ xs) ys = behind_append (cs ++ change_of x ∷ []) xs ys

  done_append : (cs : List Change) (xs ys : List PartyAct) (put other : ℕ → List ℕ → ℕ) (before after : List Step) → Done cs xs put before → Done (changes_behind cs xs) ys other after → Done cs (xs ++ ys) other after
  done_append cs xs ys put other before after p q = record {
    fine = fine_append cs xs ys p.fine q.fine;
    stage = subst (λ (c : List Change). Stage c other after) (sym (behind_append cs xs ys)) q.stage;
  }

  done_put : (cs : List Change) (acts : List PartyAct) (put other : ℕ → List ℕ → ℕ) (before : List Step) → ((k : ℕ) (x : List ℕ) → k < length deal.parties → put k x ≡ other k x) → Done cs acts put before → Done cs acts other before
  done_put cs acts put other before same p = record { fine = p.fine; stage = same_put deal d l rows (changes_behind cs acts) put other before same p.stage }

  -- ---- the escrows of one party

  abbrev plus_plan : (ℕ → List ℕ → ℕ) → ℕ → List PlanAct → ℕ → List ℕ → ℕ
  plus_plan put j acts k x = put k x + cond (k == j) (escrowed_in acts l x) 0

  more_acts : (put : ℕ → List ℕ → ℕ) (j : ℕ) (act : PlanAct) (acts : List PlanAct) → ((x : List ℕ) → escrowed l x act ≡ 0) → (k : ℕ) (x : List ℕ) → k < length deal.parties → plus_plan put j acts k x ≡ plus_plan put j (act ∷ acts) k x
  more_acts put j act acts none k x lt =
      let same : escrowed_in acts l x ≡ escrowed_in (act ∷ acts) l x = omega (arith, none x, sum_by-cons (escrowed l x) act acts) in
      ap (λ m. put k x + cond (k == j) m 0) same

  -- the escrow is of something, and read from its text
  abbrev IsGoodEscrow : List ℕ → List ℕ → ℕ → Type 0
  IsGoodEscrow on of m = (0 < m) × Reads deal (plan.Escrow on of m)

  abbrev HaveGoodEscrows : List PlanAct → Type 0
  HaveGoodEscrows acts = (on of : List ℕ) (m : ℕ) → Contains acts (plan.Escrow on of m) → IsGoodEscrow on of m

  abbrev HasRoom : (ℕ → List ℕ → ℕ) → ℕ → List PlanAct → Type 0
  HasRoom put j acts = (x : List ℕ) → put j x + escrowed_in acts l x ≤ opening_of rows (account_of deal.parties j) x

  plan_done : (cs : List Change) (put : ℕ → List ℕ → ℕ) (before : List Step) → Stage cs put before → (j : ℕ) → j < length deal.parties → (acts : List PlanAct) → HaveGoodEscrows acts → HasRoom put j acts → Done cs (flat_map (escrow_on l j) acts) (plus_plan put j acts) before
  plan_done cs put before st j lj [] good enough = record { fine = tt; stage = same_put deal d l rows cs put (plus_plan put j []) before (λ k x lt. nothing (k == j) (put k x)) st }
    where
      nothing : (t : Bool) (n : ℕ) → n ≡ n + cond t 0 0
      nothing true n = omega arith
      nothing false n = omega arith
  plan_done cs put before st j lj (plan.Register ∷ acts) good enough =
      done_put cs (flat_map (escrow_on l j) acts) (plus_plan put j acts) (plus_plan put j (plan.Register ∷ acts)) before
      (more_acts put j plan.Register acts (λ x. refl))
      (plan_done cs put before st j lj acts (λ on of m c. good on of m (in_tail plan.Register acts (plan.Escrow on of m) c)) (λ x. omega (arith, enough x, sum_by-cons (escrowed l x) plan.Register acts)))
  plan_done cs put before st j lj (plan.Transfer on t to of m ∷ acts) good enough =
      done_put cs (flat_map (escrow_on l j) acts) (plus_plan put j acts) (plus_plan put j (plan.Transfer on t to of m ∷ acts)) before
      (more_acts put j (plan.Transfer on t to of m) acts (λ x. refl))
      (plan_done cs put before st j lj acts (λ at it n c. good at it n (in_tail (plan.Transfer on t to of m) acts (plan.Escrow at it n) c)) (λ x. omega (arith, enough x, sum_by-cons (escrowed l x) (plan.Transfer on t to of m) acts)))
  plan_done cs put before st j lj (plan.Escrow on of m ∷ acts) good enough =
      by_test (bytes_eq l on) refl
      (λ there. plan_done cs put before st j lj acts later (λ x. omega (arith, enough x, sum_by-cons (escrowed l x) (plan.Escrow on of m) acts)))
      (λ here. plan_done (cs ++ change.Escrowed deal.id (account_of deal.parties j) of m ∷ []) (put_more deal d l rows put j of m) before
      (escrow_stage deal d l rows cs put before st j of m lj) j lj acts later (λ x. room here x))
    where
      later : HaveGoodEscrows acts
      later at it n c = good at it n (in_tail (plan.Escrow on of m) acts (plan.Escrow at it n) c)

      own : (x : List ℕ) (t : Bool) → bytes_eq l on ≡ true → cond ((j == j) && t) m 0 ≡ cond t m 0
      own x t here = ap (λ u. cond (u && t) m 0) (eq-eqb j j refl)

      here_is : (x : List ℕ) → bytes_eq l on ≡ true → escrowed l x (plan.Escrow on of m) ≡ cond (bytes_eq x of) m 0
      here_is x here = ap (λ t. cond (t && bytes_eq x of) m 0) here

      room : bytes_eq l on ≡ true → (x : List ℕ) → (put j x + cond ((j == j) && bytes_eq x of) m 0) + escrowed_in acts l x ≤ opening_of rows (account_of deal.parties j) x
      room here x = omega (arith, enough x, sum_by-cons (escrowed l x) (plan.Escrow on of m) acts, own x (bytes_eq x of) here, here_is x here)

      first_room : bytes_eq l on ≡ true → put j of + m ≤ opening_of rows (account_of deal.parties j) of
      first_room here =
          let self : cond (bytes_eq of of) m 0 ≡ m = ap (λ t. cond t m 0) (itself of) in
          omega (arith, enough of, sum_by-cons (escrowed l of) (plan.Escrow on of m) acts, here_is of here, self)

      sums : (t u : Bool) (p e : ℕ) → (p + cond (t && u) m 0) + cond t e 0 ≡ p + cond t (cond u m 0 + e) 0
      sums true true p e = omega arith
      sums true false p e = omega arith
      sums false u p e = omega arith

      total : bytes_eq l on ≡ true → (k : ℕ) (x : List ℕ) → k < length deal.parties → (put k x + cond ((k == j) && bytes_eq x of) m 0) + cond (k == j) (escrowed_in acts l x) 0 ≡ put k x + cond (k == j) (escrowed_in (plan.Escrow on of m ∷ acts) l x) 0
      total here k x lt =
          let all : cond (bytes_eq x of) m 0 + escrowed_in acts l x ≡ escrowed_in (plan.Escrow on of m ∷ acts) l x = omega (arith, here_is x here, sum_by-cons (escrowed l x) (plan.Escrow on of m) acts) in
          sums (k == j) (bytes_eq x of) (put k x) (escrowed_in acts l x) ∙ ap (λ n. put k x + cond (k == j) n 0) all

      by_test : (t : Bool) → bytes_eq l on ≡ t
          → (bytes_eq l on ≡ false → Done cs (flat_map (escrow_on l j) acts) (plus_plan put j acts) before)
          → (bytes_eq l on ≡ true → Done (cs ++ change.Escrowed deal.id (account_of deal.parties j) of m ∷ []) (flat_map (escrow_on l j) acts) (plus_plan (put_more deal d l rows put j of m) j acts) before)
          → Done cs (cond t (act_by j (plan.Escrow on of m) ∷ []) [] ++ flat_map (escrow_on l j) acts) (plus_plan put j (plan.Escrow on of m ∷ acts)) before
      by_test false is there here =
          done_put cs (flat_map (escrow_on l j) acts) (plus_plan put j acts) (plus_plan put j (plan.Escrow on of m ∷ acts)) before
          (more_acts put j (plan.Escrow on of m) acts (λ x. ap (λ t. cond (t && bytes_eq x of) m 0) is)) (there is)
      by_test true is there here =
          let g = good on of m (at_head (plan.Escrow on of m) acts) in
          let q = done_put (cs ++ change.Escrowed deal.id (account_of deal.parties j) of m ∷ []) (flat_map (escrow_on l j) acts) (plus_plan (put_more deal d l rows put j of m) j acts) (plus_plan put j (plan.Escrow on of m ∷ acts)) before (total is) (here is) in
          let fine : IsFine cs (act_by j (plan.Escrow on of m)) = record {
            party = lj;
            reads = g.1;
            taken = (sym ((bytes_eq-Decides l on).0 is), escrow_open deal d l rows cs put before st j of m lj g.0 (first_room is));
            grows = refl;
          } in
          record { fine = (fine, q.fine); stage = q.stage }

  -- ---- the escrows of all parties

  -- what the first i parties put up
  abbrev pub put_of : ℕ → ℕ → List ℕ → ℕ
  put_of i k x = cond (nat_lt k i) (need_of deal.steps k l x) 0

  one_party_more : (i k : ℕ) (x : List ℕ) → put_of i k x + cond (k == i) (escrowed_in (plan_of deal.steps i) l x) 0 ≡ put_of (suc i) k x
  one_party_more i k x = by_same (k == i) refl
    where
      same_party : k ≡ i → put_of i k x + escrowed_in (plan_of deal.steps i) l x ≡ put_of (suc i) k x
      same_party e =
          let none : put_of i k x ≡ 0 = ap (λ t. cond t (need_of deal.steps k l x) 0) (le-ltb k i (omega (arith, e))) in
          let own : put_of (suc i) k x ≡ need_of deal.steps k l x = ap (λ t. cond t (need_of deal.steps k l x) 0) (lt-ltb k (suc i) (omega (arith, e))) in
          let that : need_of deal.steps k l x ≡ need_of deal.steps i l x = ap (λ j. need_of deal.steps j l x) e in
          omega (arith, none, own, that, plan_total deal.steps i l x)

      other_party : (k ≡ i → ⊥) → (b : Bool) → nat_lt k i ≡ b → put_of i k x + 0 ≡ put_of (suc i) k x
      other_party apart true is =
          let less = ltb-true k i is in
          let one : put_of i k x ≡ need_of deal.steps k l x = ap (λ t. cond t (need_of deal.steps k l x) 0) is in
          let two : put_of (suc i) k x ≡ need_of deal.steps k l x = ap (λ t. cond t (need_of deal.steps k l x) 0) (lt-ltb k (suc i) (omega (arith, less))) in
          omega (arith, one, two)
      other_party apart false is =
          let more = ltb-false k i is in
          let one : put_of i k x ≡ 0 = ap (λ t. cond t (need_of deal.steps k l x) 0) is in
          let two : put_of (suc i) k x ≡ 0 = ap (λ t. cond t (need_of deal.steps k l x) 0) (le-ltb k (suc i) (omega (arith, more, apart))) in
          omega (arith, one, two)

      by_same : (t : Bool) → (k == i) ≡ t → put_of i k x + cond t (escrowed_in (plan_of deal.steps i) l x) 0 ≡ put_of (suc i) k x
      by_same true is = same_party (eqb-true k i is)
      by_same false is = other_party (eqb-false k i is) (nat_lt k i) refl

  parties_done : IsFunded deal l rows → (cs : List Change) (before : List Step) → Stage cs (put_of 0) before → (i : ℕ) → i ≤ length deal.parties → Done cs (escrows_on deal.steps l i) (put_of i) before
  parties_done funded cs before st zero le = record { fine = tt; stage = st }
  parties_done funded cs before st (suc i) le =
      let front = parties_done funded cs before st i (omega (arith, le)) in
      let lt : i < length deal.parties = omega (arith, le) in
      let behind : List Change = changes_behind cs (escrows_on deal.steps l i) in
      let acts : List PlanAct = plan_of deal.steps i in
      let one = plan_done behind (put_of i) before front.stage i lt acts
      (λ on of m there. ((escrowed_is_need deal.steps i on of m there).0, reads_planned deal d s i on of m there))
      (λ x. let none : put_of i i x ≡ 0 = ap (λ t. cond t (need_of deal.steps i l x) 0) (le-ltb i i (omega arith)) in omega (arith, none, plan_total deal.steps i l x, funded.covers i x lt)) in
      done_append cs (escrows_on deal.steps l i) (flat_map (escrow_on l i) acts) (put_of i) (put_of (suc i)) before before front
      (done_put behind (flat_map (escrow_on l i) acts) (plus_plan (put_of i) i acts) (put_of (suc i)) before (λ k x lk. one_party_more i k x) one)

  -- ---- the steps

  abbrev pub needed : ℕ → List ℕ → ℕ
  needed k x = need_of deal.steps k l x

  -- the transfer of a step as its sender's plan has it
  abbrev sent : List Step → Step → PartyAct
  sent before step = act_by step.from (plan.Transfer step.ledger (turns_of before step.from step.ledger) step.to step.asset step.amount)

  abbrev sent_on : List Step → Step → List PartyAct
  sent_on before step = cond (bytes_eq l step.ledger) (sent before step ∷ []) []

  abbrev all_sent : List Step → List Step → List PartyAct
  all_sent before [] = []
  all_sent before (step ∷ steps) = sent_on before step ++ all_sent (before ++ step ∷ []) steps

  transfer_is_sent : (before : List Step) (step : Step) → transfer_on l before step ≡ sent_on before step
  transfer_is_sent before step = ap (λ t. cond (bytes_eq l step.ledger) (map (act_by step.from) (cond t (plan.Transfer step.ledger (turns_of before step.from step.ledger) step.to step.asset step.amount ∷ []) [])) []) (eq-eqb step.from step.from refl)

  transfers_are_sent : (before steps : List Step) → transfers_on l before steps ≡ all_sent before steps
  transfers_are_sent before [] = refl
  transfers_are_sent before (step ∷ steps) =
      ap (λ (acts : List PartyAct). acts ++ transfers_on l (before ++ step ∷ []) steps) (transfer_is_sent before step)
      ∙ ap (λ (acts : List PartyAct). sent_on before step ++ acts) (transfers_are_sent (before ++ step ∷ []) steps)

  steps_done : (cs : List Change) (before rest later : List Step) → before ++ (rest ++ later) ≡ deal.steps → Stage cs needed before → Done cs (all_sent before rest) needed (before ++ rest)
  steps_done cs before [] later parts st = record { fine = tt; stage = subst (λ (f : List Step). Stage cs needed f) (sym (append-nil before)) st }
  steps_done cs before (step ∷ rest) later parts st =
      by_test (bytes_eq l step.ledger) refl
      (λ there. steps_done cs (before ++ step ∷ []) rest later next (skip_stage deal d l rows cs needed before st step there))
      (λ here. steps_done (cs ++ change_of (sent before step) ∷ []) (before ++ step ∷ []) rest later next (step_stage deal d l rows cs needed before st step good.from good.to here))
    where
      next : (before ++ step ∷ []) ++ (rest ++ later) ≡ deal.steps
      next = append_assoc before (step ∷ []) (rest ++ later) ∙ parts

      there_in : Contains deal.steps step
      there_in = subst (λ (f : List Step). Contains f step) parts (in_back before (step ∷ (rest ++ later)) step (at_head step (rest ++ later)))

      good : IsStepOf (length deal.parties) step
      good = each_of (IsStepOf (length deal.parties)) deal.steps d.kept.between step there_in

      funded : bytes_eq l step.ledger ≡ true → outgoing before step.from l step.asset + step.amount ≤ need_of deal.steps step.from l step.asset + incoming before step.from l step.asset
      funded here =
          let all : need_of (before ++ step ∷ (rest ++ later)) step.from l step.asset ≡ need_of deal.steps step.from l step.asset = ap (λ (f : List Step). need_of f step.from l step.asset) parts in
          omega (arith, step_funded before step (rest ++ later) l here good.different, all)

      few : length (before ++ step ∷ (rest ++ later)) ≤ 64
      few = omega (arith, d.kept.few_steps, ap length parts)

      few_on : (on : List ℕ) → turns_of before step.from on < 4294967295
      few_on on = few_turns before (step ∷ (rest ++ later)) step.from on few

      fine : bytes_eq l step.ledger ≡ true → IsFine cs (sent before step)
      fine here =
          let on : l ≡ step.ledger = (bytes_eq-Decides l step.ledger).0 here in
          let turn : turns_of before step.from l ≡ turns_of before step.from step.ledger = ap (λ (y : List ℕ). turns_of before step.from y) on in
          let b : History = book_with rows cs in
          let open_yet = step_open deal d l rows cs needed before st step good.from good.to good.different good.some (funded here) in
          record {
            party = good.from;
            reads = reads_step deal d s step there_in (turns_of before step.from step.ledger) (omega (arith, few_on step.ledger)) good.to;
            taken = (
              sym on,
              subst (λ (t : ℕ). transfer_refusal b deal.id (account_of deal.parties step.from) t (account_of deal.parties step.to) step.asset step.amount ≡ None) turn open_yet,
              omega (arith, st.moves step.from good.from, few_on l),
            );
            grows = refl;
          }

      by_test : (t : Bool) → bytes_eq l step.ledger ≡ t
          → (bytes_eq l step.ledger ≡ false → Done cs (all_sent (before ++ step ∷ []) rest) needed ((before ++ step ∷ []) ++ rest))
          → (bytes_eq l step.ledger ≡ true → Done (cs ++ change_of (sent before step) ∷ []) (all_sent (before ++ step ∷ []) rest) needed ((before ++ step ∷ []) ++ rest))
          → Done cs (cond t (sent before step ∷ []) [] ++ all_sent (before ++ step ∷ []) rest) needed (before ++ step ∷ rest)
      by_test false is there here =
          let r = there is in
          record { fine = r.fine; stage = subst (λ (f : List Step). Stage (changes_behind cs (all_sent (before ++ step ∷ []) rest)) needed f) (append_assoc before (step ∷ []) rest) r.stage }
      by_test true is there here =
          let r = here is in
          record {
            fine = (fine is, r.fine);
            stage = subst (λ (f : List Step). Stage (changes_behind (cs ++ change_of (sent before step) ∷ []) (all_sent (before ++ step ∷ []) rest)) needed f) (append_assoc before (step ∷ []) rest) r.stage;
          }

  -- ---- all

  abbrev pub first_changes : List Change
  first_changes = change.Registered deal.id (accounts_of deal) ∷ []

  pub first_stage : Stage first_changes (put_of 0) []
  first_stage = record {
    known = rw (same_id-self deal.id) refl;
    running = refl;
    escrows = λ k x lt. zero_put k x;
    comes = λ k x lt. refl;
    goes = λ k x lt. refl;
    spends = λ k x lt. zero_put k x;
    moves = λ k lt. refl;
  }
    where
      zero_put : (k : ℕ) (x : List ℕ) → 0 ≡ put_of 0 k x
      zero_put k x = sym (ap (λ t. cond t (need_of deal.steps k l x) 0) (le-ltb k 0 (omega arith)))

  pub register_fine : (r : ℕ) → r < length deal.parties → IsFine [] (act_by r plan.Register)
  register_fine r lt =
      let known : parties_in (deal_text deal) ≡ accounts_of deal = ap accounts_in (text_again deal d s) in
      let id : digest_of (deal_text deal) ≡ deal.id = ap (λ (bytes : List ℕ). record { 0 = bytes }) (sym d.id) in
      record {
        party = lt;
        reads = reads_register deal d s;
        taken = (
          subst (λ (all : List Id). IsTrue (are_parties all)) (sym known) (good_parties deal d),
          subst (λ (all : List Id). IsTrue (is_in (account_of deal.parties r) all)) (sym known) (is_account deal r lt),
        );
        grows = (λ i. book_with rows (change.Registered (id i) (known i) ∷ []));
      }

  pub all_done : IsFunded deal l rows → (r : ℕ) → r < length deal.parties → (front later : List Step) → front ++ later ≡ deal.steps → Done [] (acts_on deal l r front) needed front
  all_done funded r lt front later parts =
      let n = length deal.parties in
      let escrows = parties_done funded first_changes [] first_stage n (omega arith) in
      let whole = done_put first_changes (escrows_on deal.steps l n) (put_of n) needed []
      (λ k x lk. ap (λ t. cond t (need_of deal.steps k l x) 0) (lt-ltb k n lk)) escrows in
      let moved = steps_done (changes_behind first_changes (escrows_on deal.steps l n)) [] front later parts whole.stage in
      let all = done_append first_changes (escrows_on deal.steps l n) (all_sent [] front) needed needed [] front whole moved in
      let planned : Done first_changes (escrows_on deal.steps l n ++ transfers_on l [] front) needed front =
      subst (λ (acts : List PartyAct). Done first_changes (escrows_on deal.steps l n ++ acts) needed front) (sym (transfers_are_sent [] front)) all in
      record { fine = (register_fine r lt, planned.fine); stage = planned.stage }
