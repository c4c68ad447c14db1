-- What a book holds while the parties of a deal do their parts on one ledger.
use Rattle.std.proofs.Common.{◌≡◌, ℕ, ◌+◌, ◌<◌, ◌≤◌, ◌==◌, Bool, true, false, cond, ◌&&◌, ◌||◌, Option, Some, None, is_some, List, [], ◌∷◌, ◌++◌, length, refl, ap, sym, ◌∙◌, arith}
use Rattle.std.specs.List.{sum_by, count_by}
use Rattle.std.specs.Option.{option_or, option_map}
use Rattle.std.specs.Str.{bytes_eq}
use Rattle.std.proofs.lemmas.Bool.{ne_eqb, eq-eqb, le-ltb}
use Rattle.std.proofs.lemmas.List.Sums.{sum_by_push}
use Rattle.dh_base.specs.Ids.{same_id}
use Rattle.dh_base.specs.declared.id.Id.{Id}
use Rattle.dh_base.specs.declared.outcome.Outcome.{Outcome}
use Rattle.dh_base.proofs.SameIds.{same_id-self}
use Rattle.escrow_book.specs.declared.change.Change.{Change}
use Rattle.escrow_book.specs.declared.change.Change.TheVariants as change
use Rattle.escrow_book.specs.declared.fault.BookFault.TheVariants.{UnknownDeal, NotAParty, DealSettled, WrongTurn, ZeroOrSelf, Short}
use Rattle.escrow_book.specs.Base.{nothing_carried}
use Rattle.escrow_book.specs.Opening.{Row, opening_of}
use Rattle.escrow_book.specs.History.{History, first_answer, registration, settlement, is_among, escrowed, received, given, is_move, if_commit_of, moves_of, paid_from, put_up, free_of}
use Rattle.escrow_book.specs.Refused.{unknown_deal, not_a_party, deal_settled, zero as zero_amount, short, escrow_refusal, transfer_refusal}
use Rattle.deal_core.specs.Deals.{DealTold, amount_if}
use Rattle.deal_core.specs.Kept.{IsDeal}
use Rattle.deal_core.specs.declared.step.Step.{Step}
use Rattle.clear_core.specs.Clearing.{is_in as comes_in, is_out as goes_out, incoming, outgoing, is_turn, turns_of}
use Rattle.joined_deals.specs.DealTexts.{account_of}
use Rattle.compliant_deals.proofs.Accounts.{accounts_of, accounts_differ, is_account}

-- a whole book with these changes
abbrev pub book_with : List Row → List Change → History
book_with rows changes = record { opening = rows; carried = nothing_carried; changes = changes }

pub answer_push : {T : Type 0} (answer : Change → Option T) (xs : List Change) (c : Change) (t : Option T) → first_answer answer xs ≡ t → answer c ≡ None → first_answer answer (xs ++ c ∷ []) ≡ t
answer_push answer [] c t is none = ap (λ o. option_or o None) none ∙ is
answer_push {T} answer (x ∷ xs) c t is none = ap (λ (o : Option T). option_or (answer x) o) (answer_push answer xs c (first_answer answer xs) refl none) ∙ is

none_first : {X : Type 0} (a b : Option X) → a ≡ None → b ≡ None → option_or a b ≡ None
none_first a b e f = ap (λ o. option_or o b) e ∙ f

and_true : (b t : Bool) → t ≡ true → (b && t) ≡ b
and_true true t e = e
and_true false t e = refl

and_false : (b : Bool) → (b && false) ≡ false
and_false true = refl
and_false false = refl

module _ (deal : DealTold) (d : IsDeal deal) (l : List ℕ) (rows : List Row) where
  -- Behind these changes, which made these steps: each party has put up so much, and received and
  -- given what the steps say.
  pub record IsStage (cs : List Change) (put : ℕ → List ℕ → ℕ) (before : List Step) : Type 0 where
    pub known : first_answer (registration deal.id) cs ≡ Some (accounts_of deal)
    pub running : first_answer (settlement deal.id) cs ≡ None
    pub escrows : (k : ℕ) (x : List ℕ) → k < length deal.parties → sum_by (escrowed deal.id (account_of deal.parties k) x) cs ≡ put k x
    pub comes : (k : ℕ) (x : List ℕ) → k < length deal.parties → sum_by (received deal.id (account_of deal.parties k) x) cs ≡ incoming before k l x
    pub goes : (k : ℕ) (x : List ℕ) → k < length deal.parties → sum_by (given deal.id (account_of deal.parties k) x) cs ≡ outgoing before k l x
    pub spends : (k : ℕ) (x : List ℕ) → k < length deal.parties → sum_by (paid_from (account_of deal.parties k) x) cs + sum_by (put_up (account_of deal.parties k) x) cs ≡ put k x
    pub moves : (k : ℕ) → k < length deal.parties → count_by (is_move deal.id (account_of deal.parties k)) cs ≡ turns_of before k l

  pub same_put : (cs : List Change) (put other : ℕ → List ℕ → ℕ) (before : List Step) → ((k : ℕ) (x : List ℕ) → k < length deal.parties → put k x ≡ other k x) → IsStage cs put before → IsStage cs other before
  same_put cs put other before same s = record {
    known = s.known;
    running = s.running;
    escrows = λ k x lt. s.escrows k x lt ∙ same k x lt;
    comes = s.comes;
    goes = s.goes;
    spends = λ k x lt. s.spends k x lt ∙ same k x lt;
    moves = s.moves;
  }

  -- ---- refusals

  is_known_here : (cs : List Change) (put : ℕ → List ℕ → ℕ) (before : List Step) → IsStage cs put before → unknown_deal (book_with rows cs) deal.id ≡ None
  is_known_here cs put before s = ap (λ (o : Option (List Id)). cond (is_some o) None (Some UnknownDeal)) s.known

  is_party_here : (cs : List Change) (put : ℕ → List ℕ → ℕ) (before : List Step) → IsStage cs put before → (k : ℕ) → k < length deal.parties → not_a_party (book_with rows cs) deal.id (account_of deal.parties k) ≡ None
  is_party_here cs put before s k lt =
      ap (λ (o : Option (List Id)). cond (is_among (account_of deal.parties k) o) None (Some (NotAParty (account_of deal.parties k)))) s.known
      ∙ ap (λ t. cond t None (Some (NotAParty (account_of deal.parties k)))) (is_account deal k lt)

  is_open_here : (cs : List Change) (put : ℕ → List ℕ → ℕ) (before : List Step) → IsStage cs put before → deal_settled (book_with rows cs) deal.id ≡ None
  is_open_here cs put before s = ap (λ (o : Option Outcome). option_map DealSettled o) s.running

  no_short : (held m : ℕ) → m ≤ held → short held m ≡ None
  no_short held m le = ap (λ t. cond t (Some (Short held)) None) (le-ltb held m le)

  no_zero : (m : ℕ) → 0 < m → zero_amount m ≡ None
  no_zero m some =
      let apart : m ≡ 0 → ⊥ = λ e. omega (arith, e, some) in
      ap (λ t. cond t (Some ZeroOrSelf) None) (ne_eqb m 0 apart)

  -- ---- amounts of one change

  of_deal : (k j : ℕ) → k < length deal.parties → j < length deal.parties → (t : Bool) (m : ℕ) → cond (same_id deal.id deal.id && (same_id (account_of deal.parties k) (account_of deal.parties j) && t)) m 0 ≡ cond ((k == j) && t) m 0
  of_deal k j lk lj t m =
      ap (λ b. cond (b && (same_id (account_of deal.parties k) (account_of deal.parties j) && t)) m 0) (same_id-self deal.id)
      ∙ ap (λ b. cond (b && t) m 0) (accounts_differ deal d k j lk lj)

  -- ---- an escrow

  pub escrow_open : (cs : List Change) (put : ℕ → List ℕ → ℕ) (before : List Step) → IsStage cs put before → (j : ℕ) (y : List ℕ) (m : ℕ) → j < length deal.parties → 0 < m → put j y + m ≤ opening_of rows (account_of deal.parties j) y → escrow_refusal (book_with rows cs) deal.id (account_of deal.parties j) y m ≡ None
  escrow_open cs put before s j y m lj some enough =
      let b : History = book_with rows cs in
      let held : m ≤ free_of b (account_of deal.parties j) y = omega (arith, s.spends j y lj, enough) in
      none_first _ _ (is_known_here cs put before s)
      (none_first _ _ (is_party_here cs put before s j lj)
      (none_first _ _ (is_open_here cs put before s)
      (none_first _ _ (no_zero m some)
      (none_first _ _ (no_short (free_of b (account_of deal.parties j) y) m held) refl))))

  abbrev pub put_more : (ℕ → List ℕ → ℕ) → ℕ → List ℕ → ℕ → ℕ → List ℕ → ℕ
  put_more put j y m k x = put k x + cond ((k == j) && bytes_eq x y) m 0

  pub escrow_stage : (cs : List Change) (put : ℕ → List ℕ → ℕ) (before : List Step) → IsStage cs put before → (j : ℕ) (y : List ℕ) (m : ℕ) → j < length deal.parties → IsStage (cs ++ change.Escrowed deal.id (account_of deal.parties j) y m ∷ []) (put_more put j y m) before
  escrow_stage cs put before s j y m lj =
      let c : Change = change.Escrowed deal.id (account_of deal.parties j) y m in
      record {
        known = answer_push (registration deal.id) cs c (Some (accounts_of deal)) s.known refl;
        running = answer_push (settlement deal.id) cs c None s.running refl;
        escrows = λ k x lt. sum_by_push (escrowed deal.id (account_of deal.parties k) x) cs c ∙ omega (arith, s.escrows k x lt, of_deal k j lt lj (bytes_eq x y) m);
        comes = λ k x lt. sum_by_push (received deal.id (account_of deal.parties k) x) cs c ∙ omega (arith, s.comes k x lt);
        goes = λ k x lt. sum_by_push (given deal.id (account_of deal.parties k) x) cs c ∙ omega (arith, s.goes k x lt);
        spends = λ k x lt.
            let put_here : cond (same_id (account_of deal.parties k) (account_of deal.parties j) && bytes_eq x y) m 0 ≡ cond ((k == j) && bytes_eq x y) m 0 = ap (λ t. cond (t && bytes_eq x y) m 0) (accounts_differ deal d k j lt lj) in
            omega (arith, s.spends k x lt, sum_by_push (paid_from (account_of deal.parties k) x) cs c, sum_by_push (put_up (account_of deal.parties k) x) cs c, put_here);
        moves = λ k lt. sum_by_push (λ e. cond (is_move deal.id (account_of deal.parties k) e) 1 0) cs c ∙ omega (arith, s.moves k lt);
      }

  -- ---- a step

  pub step_open : (cs : List Change) (put : ℕ → List ℕ → ℕ) (before : List Step) → IsStage cs put before → (s : Step) → s.from < length deal.parties → s.to < length deal.parties → (s.from ≡ s.to → ⊥) → 0 < s.amount → outgoing before s.from l s.asset + s.amount ≤ put s.from s.asset + incoming before s.from l s.asset → transfer_refusal (book_with rows cs) deal.id (account_of deal.parties s.from) (turns_of before s.from l) (account_of deal.parties s.to) s.asset s.amount ≡ None
  step_open cs put before st s lf lt different some enough =
      let b : History = book_with rows cs in
      let from : Id = account_of deal.parties s.from in
      let to : Id = account_of deal.parties s.to in
      let held : s.amount ≤ if_commit_of b deal.id from s.asset = omega (arith, st.escrows s.from s.asset lf, st.comes s.from s.asset lf, st.goes s.from s.asset lf, enough) in
      let zero_apart : s.amount ≡ 0 → ⊥ = λ e. omega (arith, e, some) in
      let self : ((s.amount == 0) || same_id from to) ≡ false = rw (ne_eqb s.amount 0 zero_apart, accounts_differ deal d s.from s.to lf lt, ne_eqb s.from s.to different) refl in
      let made : moves_of b deal.id from ≡ turns_of before s.from l = omega (arith, st.moves s.from lf) in
      let turn : (turns_of before s.from l == moves_of b deal.id from) ≡ true = eq-eqb (turns_of before s.from l) (moves_of b deal.id from) (sym made) in
      none_first _ _ (is_known_here cs put before st)
      (none_first _ _ (is_party_here cs put before st s.from lf)
      (none_first _ _ (is_party_here cs put before st s.to lt)
      (none_first _ _ (is_open_here cs put before st)
      (none_first _ _ (ap (λ t. cond t None (Some (WrongTurn (moves_of b deal.id from)))) turn)
      (none_first _ _ (ap (λ t. cond t (Some ZeroOrSelf) None) self)
      (none_first _ _ (no_short (if_commit_of b deal.id from s.asset) s.amount held) refl))))))

  on_ledger : (k j : ℕ) (s : Step) (x : List ℕ) → bytes_eq l s.ledger ≡ true → cond ((k == j) && (bytes_eq l s.ledger && bytes_eq x s.asset)) s.amount 0 ≡ cond ((k == j) && bytes_eq x s.asset) s.amount 0
  on_ledger k j s x here = ap (λ t. cond ((k == j) && (t && bytes_eq x s.asset)) s.amount 0) here

  pub step_stage : (cs : List Change) (put : ℕ → List ℕ → ℕ) (before : List Step) → IsStage cs put before → (s : Step) → s.from < length deal.parties → s.to < length deal.parties → bytes_eq l s.ledger ≡ true → IsStage (cs ++ change.Transferred deal.id (account_of deal.parties s.from) (account_of deal.parties s.to) s.asset s.amount ∷ []) put (before ++ s ∷ [])
  step_stage cs put before st s lf lt here =
      let c : Change = change.Transferred deal.id (account_of deal.parties s.from) (account_of deal.parties s.to) s.asset s.amount in
      record {
        known = answer_push (registration deal.id) cs c (Some (accounts_of deal)) st.known refl;
        running = answer_push (settlement deal.id) cs c None st.running refl;
        escrows = λ k x lk. sum_by_push (escrowed deal.id (account_of deal.parties k) x) cs c ∙ omega (arith, st.escrows k x lk);
        comes = λ k x lk. sum_by_push (received deal.id (account_of deal.parties k) x) cs c
            ∙ (omega (arith, st.comes k x lk, of_deal k s.to lk lt (bytes_eq x s.asset) s.amount, on_ledger k s.to s x here) ∙ sym (sum_by_push (amount_if (comes_in k l x)) before s));
        goes = λ k x lk. sum_by_push (given deal.id (account_of deal.parties k) x) cs c
            ∙ (omega (arith, st.goes k x lk, of_deal k s.from lk lf (bytes_eq x s.asset) s.amount, on_ledger k s.from s x here) ∙ sym (sum_by_push (amount_if (goes_out k l x)) before s));
        spends = λ k x lk. omega (arith, st.spends k x lk, sum_by_push (paid_from (account_of deal.parties k) x) cs c, sum_by_push (put_up (account_of deal.parties k) x) cs c);
        moves = λ k lk.
            let one : ◌≡◌ {A = ℕ} (cond (same_id deal.id deal.id && same_id (account_of deal.parties k) (account_of deal.parties s.from)) 1 0) (cond (is_turn k l s) 1 0) =
            ap (λ t. cond (t && same_id (account_of deal.parties k) (account_of deal.parties s.from)) 1 0) (same_id-self deal.id)
            ∙ (ap (λ t. cond t 1 0) (accounts_differ deal d k s.from lk lf) ∙ ap (λ t. cond t 1 0) (sym (and_true (k == s.from) (bytes_eq l s.ledger) here))) in
            sum_by_push (λ e. cond (is_move deal.id (account_of deal.parties k) e) 1 0) cs c
            ∙ (omega (arith, st.moves k lk, one) ∙ sym (sum_by_push (λ e. cond (is_turn k l e) 1 0) before s));
      }

  -- a step on another ledger changes nothing here
  off_ledger : (k j : ℕ) (s : Step) (x : List ℕ) → bytes_eq l s.ledger ≡ false → cond ((k == j) && (bytes_eq l s.ledger && bytes_eq x s.asset)) s.amount 0 ≡ 0
  off_ledger k j s x there = ap (λ t. cond ((k == j) && (t && bytes_eq x s.asset)) s.amount 0) there ∙ ap (λ t. cond t s.amount 0) (and_false (k == j))

  pub skip_stage : (cs : List Change) (put : ℕ → List ℕ → ℕ) (before : List Step) → IsStage cs put before → (s : Step) → bytes_eq l s.ledger ≡ false → IsStage cs put (before ++ s ∷ [])
  skip_stage cs put before st s there = record {
    known = st.known;
    running = st.running;
    escrows = st.escrows;
    comes = λ k x lk. omega (arith, st.comes k x lk, off_ledger k s.to s x there) ∙ sym (sum_by_push (amount_if (comes_in k l x)) before s);
    goes = λ k x lk. omega (arith, st.goes k x lk, off_ledger k s.from s x there) ∙ sym (sum_by_push (amount_if (goes_out k l x)) before s);
    spends = st.spends;
    moves = λ k lk.
        let none : ◌≡◌ {A = ℕ} (cond (is_turn k l s) 1 0) 0 = ap (λ t. cond ((k == s.from) && t) 1 0) there ∙ ap (λ t. cond t 1 0) (and_false (k == s.from)) in
        omega (arith, st.moves k lk, none) ∙ sym (sum_by_push (λ e. cond (is_turn k l e) 1 0) before s);
  }
