-- A deal is validated exactly where no act is open and nothing is unseen.
use Rattle.std.proofs.Common.{◌≡◌, ℕ, zero, suc, ◌+◌, ◌-◌, ◌<◌, ◌≤◌, ◌==◌, ◌&&◌, ◌⊎◌, inl, inr, Bool, true, false, not, cond, nat_lt, if◌then◌else◌, IsTrue, max, take, List, [], ◌∷◌, map, length, Option, Some, None, arith, refl, sym, ap, subst, ◌∙◌}
use Rattle.std.specs.List.{Contains, AllByRecursion, sum_by, count_by, find}
use Rattle.std.specs.Option.{option_map, option_or}
use Rattle.std.specs.Str.{bytes_eq}
use Rattle.std.proofs.lemmas.Bool.{cases_Bool, ltb-true, ltb-false, lt-ltb, le-ltb, eqb-true, eq-eqb}
use Rattle.std.proofs.lemmas.List.Sums.{sum_by-cons}
use Rattle.std.proofs.lemmas.Slice.Eq.{bytes_eq-Decides}
use Rattle.dh_base.specs.declared.outcome.Outcome.{Outcome}
use Rattle.act_text.specs.declared.statement.Statement.{Statement}
use Rattle.deal_core.specs.Deals.{is_of, amount_if, amount_where}
use Rattle.deal_core.specs.declared.step.Step.{Step}
use Rattle.clear_core.specs.Clearing.{is_out, is_in, outgoing, incoming, excess, greatest_to, need_of, due_of, turns_of}
use Rattle.clear_core.specs.Pairs.{pair_of, pairs_of, IsMoved}
use Rattle.clear_core.specs.declared.pair.Pair.{Pair}
use Rattle.clear_core.proofs.Moved.{at_head, in_tail, head_or_tail, none_in_empty, moved_in_pairs}
use Rattle.joined_deals.specs.declared.agent_fault.AgentFault.{AgentFault}
use Rattle.joined_deals.specs.declared.agent_fault.AgentFault.TheVariants as fault
use Rattle.joined_deals.specs.DealTexts.{JoinedTold, plan_texts}
use Rattle.joined_deals.specs.Signed.{is_signed, is_unsigned, acts_open}
use Rattle.joined_deals.specs.Heard.{kept_of, listed_of}
use Rattle.joined_deals.specs.Validated.{due_in, IsSeenOn, IsValidated}
use Rattle.joined_deals.specs.AgentCalls.{open_refusal, pair_refusal, first_refusal, owed_refusal, unseen, invalid}
use Rattle.joined_deals.specs.Agents.{AgentTold}

-- ---- what is due is moved

some_step : (test : Step → Bool) (steps : List Step) → 0 < amount_where test steps → (step : Step) × Contains steps step × (test step ≡ true)
some_step test [] some = absurd (omega (arith, some))
some_step test (step ∷ steps) some = elim (cases_Bool (test step)) [
  | inl passes ↦ (step, at_head step steps, passes)
  | inr fails ↦
      let zero_here : amount_if test step ≡ 0 = ap (λ (b : Bool). cond b step.amount 0) fails in
      let later = some_step test steps (omega (arith, some, zero_here, sum_by-cons (amount_if test) step steps)) in
      (later.0, in_tail step steps later.0 later.1, later.2)
]

in_take : (n : ℕ) (steps : List Step) (step : Step) → Contains (take n steps) step → Contains steps step
in_take zero [] step here = here
in_take zero (first ∷ steps) step here = absurd (none_in_empty step here)
in_take (suc n) [] step here = here
in_take (suc n) (first ∷ steps) step here = elim (head_or_tail first (take n steps) step here) [
  | inl is ↦ subst (λ (s : Step). Contains (first ∷ steps) s) is (at_head first steps)
  | inr later ↦ in_tail first steps step (in_take n steps step later)
]

some_excess : (value : ℕ → ℕ) (n : ℕ) → 0 < greatest_to value n → (k : ℕ) × (0 < value k)
some_excess value zero some = (0, some)
some_excess value (suc n) some = elim (cases_Bool (nat_lt 0 (value (suc n)))) [
  | inl more ↦ (suc n, ltb-true 0 (value (suc n)) more)
  | inr none ↦ some_excess value n (let at_most = ltb-false 0 (value (suc n)) none in omega (arith, some, at_most))
]

moves_pair : (ledger asset : List ℕ) (step : Step) → is_of ledger asset step ≡ true → pair_of step ≡ record { ledger = ledger; asset = asset }
moves_pair ledger asset step is =
    let both = and_both (bytes_eq ledger step.ledger) (bytes_eq asset step.asset) is in
    let l = sym ((bytes_eq-Decides ledger step.ledger).0 both.0) in
    let x = sym ((bytes_eq-Decides asset step.asset).0 both.1) in
    (λ i. record { ledger = l i; asset = x i })
  where
    and_both : (a b : Bool) → a && b ≡ true → (a ≡ true) × (b ≡ true)
    and_both true true e = (refl, refl)
    and_both true false e = absurd cc
    and_both false b e = absurd cc

and_right : (a b : Bool) → a && b ≡ true → b ≡ true
and_right true b e = e
and_right false b e = absurd cc

pub due_is_moved : (steps : List Step) (party : ℕ) (ledger asset : List ℕ) → 0 < due_of steps party ledger asset → IsMoved steps (record { ledger = ledger; asset = asset })
due_is_moved steps party ledger asset due = elim (cases_Bool (nat_lt 0 (incoming steps party ledger asset))) [
  | inl comes ↦ (let there = some_step (is_in party ledger asset) steps (ltb-true 0 (incoming steps party ledger asset) comes) in
      (there.0, there.1, moves_pair ledger asset there.0 (and_right (party == there.0.to) (is_of ledger asset there.0) there.2)))
  | inr none ↦
      let needs : 0 < need_of steps party ledger asset = (let nothing = ltb-false 0 (incoming steps party ledger asset) none in omega (arith, due, nothing)) in
      let at = some_excess (excess steps party ledger asset) (length steps) needs in
      let there = some_step (is_out party ledger asset) (take at.0 steps) (omega (arith, at.1)) in
      (there.0, in_take at.0 steps there.0 there.1, moves_pair ledger asset there.0 (and_right (party == there.0.from) (is_of ledger asset there.0) there.2))
]

-- ---- the first refusal

or_none : {A : Type 0} (one other : Option A) → option_or one other ≡ None → (one ≡ None) × (other ≡ None)
or_none None other e = (refl, e)
or_none (Some x) other e = absurd (let s : Some x ≡ None = e in cc)

each_none : (refusal : Pair → Option AgentFault) (pairs : List Pair) → first_refusal refusal pairs ≡ None → (pair : Pair) → Contains pairs pair → refusal pair ≡ None
each_none refusal [] none pair here = absurd (none_in_empty pair here)
each_none refusal (first ∷ pairs) none pair here =
    let both = or_none (refusal first) (first_refusal refusal pairs) none in
    elim (head_or_tail first pairs pair here) [
      | inl is ↦ subst (λ (p : Pair). refusal p ≡ None) is both.0
      | inr later ↦ each_none refusal pairs both.1 pair later
    ]

all_none : (refusal : Pair → Option AgentFault) (pairs : List Pair) → ((pair : Pair) → refusal pair ≡ None) → first_refusal refusal pairs ≡ None
all_none refusal [] each = refl
all_none refusal (first ∷ pairs) each = ap (λ (o : Option AgentFault). option_or o (first_refusal refusal pairs)) (each first) ∙ all_none refusal pairs each

-- a refusal behind a test that does not come
pub passes : (b : Bool) (refusal : AgentFault) (other : Option AgentFault) → (if b then Some refusal else other) ≡ None → (b ≡ false) × (other ≡ None)
passes true refusal other none = absurd (let e : Some refusal ≡ None = none in cc)
passes false refusal other none = (refl, none)

pub not_false : (b : Bool) → not b ≡ false → b ≡ true
not_false true e = refl
not_false false e = absurd (let s : true ≡ false = e in cc)

taken : (b : Bool) (refusal : Option AgentFault) → b ≡ true → (if b then refusal else None) ≡ None → refusal ≡ None
taken true refusal is none = none
taken false refusal is none = absurd (let s : false ≡ true = is in cc)

-- ---- one pair

-- a pair of which something is due lacks nothing
pub record IsMet (heard : List Statement) (joined : JoinedTold) (ledger asset : List ℕ) : Type 0 where
  pub statement : Statement
  pub kept : kept_of heard joined.deal.id ledger ≡ Some statement
  pub unsettled : statement.settled ≡ None
  pub moved : statement.moves ≡ turns_of joined.deal.steps joined.index ledger
  pub lists : due_in joined ledger asset ≤ listed_of statement.rows asset

module _ (joined : JoinedTold) (pair : Pair) where
  abbrev due_here : ℕ
  due_here = due_in joined pair.ledger pair.asset

  abbrev moves_open : Statement → AgentFault
  moves_open s = fault.MovesOpen pair.ledger s.moves (turns_of joined.deal.steps joined.index pair.ledger)

  abbrev not_listed : Statement → AgentFault
  not_listed s = fault.NotValidated pair.ledger pair.asset (listed_of s.rows pair.asset) due_here

  open_met : (s : Statement) → open_refusal joined pair s ≡ None → (s.moves ≡ turns_of joined.deal.steps joined.index pair.ledger) × (due_in joined pair.ledger pair.asset ≤ listed_of s.rows pair.asset)
  open_met s none =
      let first = passes (not (s.moves == turns_of joined.deal.steps joined.index pair.ledger)) (moves_open s) (if nat_lt (listed_of s.rows pair.asset) due_here then Some (not_listed s) else None) none in
      let second = passes (nat_lt (listed_of s.rows pair.asset) due_here) (not_listed s) None first.1 in (
        eqb-true s.moves (turns_of joined.deal.steps joined.index pair.ledger) (not_false (s.moves == turns_of joined.deal.steps joined.index pair.ledger) first.0),
        ltb-false (listed_of s.rows pair.asset) due_here second.0,
      )

  open_none : (s : Statement) → s.moves ≡ turns_of joined.deal.steps joined.index pair.ledger → due_in joined pair.ledger pair.asset ≤ listed_of s.rows pair.asset → open_refusal joined pair s ≡ None
  open_none s moved lists =
      ap (λ (b : Bool). if not b then Some (moves_open s) else if nat_lt (listed_of s.rows pair.asset) due_here then Some (not_listed s) else None) (eq-eqb s.moves (turns_of joined.deal.steps joined.index pair.ledger) moved)
      ∙ ap (λ (b : Bool). if b then Some (not_listed s) else None) (le-ltb (listed_of s.rows pair.asset) due_here lists)

  met_of : (heard : List Statement) (kept : Option Statement) → kept_of heard joined.deal.id pair.ledger ≡ kept → pair_refusal joined pair kept ≡ None → IsMet heard joined pair.ledger pair.asset
  met_of heard None is none = absurd (let e : Some (fault.NotValidated pair.ledger pair.asset 0 (due_in joined pair.ledger pair.asset)) ≡ None = none in cc)
  met_of heard (Some s) is none =
      let both = or_none (option_map (fault.Settled pair.ledger) s.settled) (open_refusal joined pair s) none in
      let met = open_met s both.1 in
      record { statement = s; kept = is; unsettled = not_settled s.settled both.0; moved = met.0; lists = met.1 }
    where
      not_settled : (o : Option Outcome) → option_map (fault.Settled pair.ledger) o ≡ None → o ≡ None
      not_settled None e = refl
      not_settled (Some outcome) e = absurd (let s : Some (fault.Settled pair.ledger outcome) ≡ None = e in cc)

  none_if_met : (s : Statement) → s.settled ≡ None → s.moves ≡ turns_of joined.deal.steps joined.index pair.ledger → due_in joined pair.ledger pair.asset ≤ listed_of s.rows pair.asset → pair_refusal joined pair (Some s) ≡ None
  none_if_met s unsettled moved lists =
      ap (λ (o : Option Outcome). option_or (option_map (fault.Settled pair.ledger) o) (open_refusal joined pair s)) unsettled ∙ open_none s moved lists

module _ (heard : List Statement) (joined : JoinedTold) where
  met : unseen heard joined ≡ None → (ledger asset : List ℕ) → 0 < due_in joined ledger asset → IsMet heard joined ledger asset
  met none ledger asset due =
      let pair : Pair = record { ledger = ledger; asset = asset } in
      let here = moved_in_pairs joined.deal.steps pair (due_is_moved joined.deal.steps joined.index ledger asset due) in
      let nothing = each_none (owed_refusal heard joined) (pairs_of joined.deal.steps) none pair here in
      let some = lt-ltb 0 (due_in joined ledger asset) due in
      met_of joined pair heard (kept_of heard joined.deal.id ledger) refl (taken (nat_lt 0 (due_in joined ledger asset)) (pair_refusal joined pair (kept_of heard joined.deal.id ledger)) some nothing)

  seen_on : unseen heard joined ≡ None → (ledger asset : List ℕ) → 0 < due_in joined ledger asset → IsSeenOn heard joined ledger
  seen_on none ledger asset due =
      let m = met none ledger asset due in
      record { statement = m.statement; kept = m.kept; unsettled = m.unsettled; moved = m.moved; lists = λ other. lists_of m other }
    where
      lists_of : (m : IsMet heard joined ledger asset) (other : List ℕ) → due_in joined ledger other ≤ listed_of m.statement.rows other
      lists_of m other = elim (cases_Bool (nat_lt 0 (due_in joined ledger other))) [
        | inl some ↦
            let n = met none ledger other (ltb-true 0 (due_in joined ledger other) some) in
            let same : n.statement ≡ m.statement = (let e : Some n.statement ≡ Some m.statement = sym n.kept ∙ m.kept in cc) in
            subst (λ (s : Statement). due_in joined ledger other ≤ listed_of s.rows other) same n.lists
        | inr nothing ↦ (let at_most = ltb-false 0 (due_in joined ledger other) nothing in omega (arith, at_most))
      ]

  unseen_none : ((ledger asset : List ℕ) → 0 < due_in joined ledger asset → IsSeenOn heard joined ledger) → unseen heard joined ≡ None
  unseen_none seen = all_none (owed_refusal heard joined) (pairs_of joined.deal.steps) each
    where
      each : (pair : Pair) → owed_refusal heard joined pair ≡ None
      each pair = elim (cases_Bool (nat_lt 0 (due_in joined pair.ledger pair.asset))) [
        | inl some ↦
            let s = seen pair.ledger pair.asset (ltb-true 0 (due_in joined pair.ledger pair.asset) some) in
            ap (λ (b : Bool). if b then pair_refusal joined pair (kept_of heard joined.deal.id pair.ledger) else None) some
            ∙ (ap (pair_refusal joined pair) s.kept ∙ none_if_met joined pair s.statement s.unsettled s.moved (s.lists pair.asset))
        | inr nothing ↦ ap (λ (b : Bool). if b then pair_refusal joined pair (kept_of heard joined.deal.id pair.ledger) else None) nothing
      ]

-- ---- all acts

abbrev weight : List (List ℕ) → List ℕ → ℕ
weight signed text = cond (is_unsigned signed text) 1 0

none_open : (signed : List (List ℕ)) (texts : List (List ℕ)) → count_by (is_unsigned signed) texts ≡ 0 → AllByRecursion (λ text. IsTrue (is_signed signed text)) texts
none_open signed [] none = tt
none_open signed (text ∷ texts) none = go (is_signed signed text) refl (none_open signed texts)
  where
    more : count_by (is_unsigned signed) (text ∷ texts) ≡ weight signed text + count_by (is_unsigned signed) texts
    more = sum_by-cons (weight signed) text texts

    go : (is : Bool) → is_signed signed text ≡ is → (count_by (is_unsigned signed) texts ≡ 0 → AllByRecursion (λ t. IsTrue (is_signed signed t)) texts) → IsTrue (is_signed signed text) × AllByRecursion (λ t. IsTrue (is_signed signed t)) texts
    go true e rest = (e, rest (omega (arith, none, more)))
    go false e rest = absurd (let one : weight signed text ≡ 1 = ap (λ (b : Bool). cond (not b) 1 0) e in omega (arith, none, more, one))

all_signed : (signed : List (List ℕ)) (texts : List (List ℕ)) → AllByRecursion (λ text. IsTrue (is_signed signed text)) texts → count_by (is_unsigned signed) texts ≡ 0
all_signed signed [] all = refl
all_signed signed (text ∷ texts) all =
    let here : weight signed text ≡ 0 = ap (λ (b : Bool). cond (not b) 1 0) all.0 in
    let rest = all_signed signed texts all.1 in
    omega (arith, here, rest, sum_by-cons (weight signed) text texts)

-- the deal is validated exactly where it lacks nothing
pub validated : (agent : AgentTold) (joined : JoinedTold) → invalid agent joined ≡ None → IsValidated agent.signed agent.heard joined
validated agent joined none =
    let both = passes (nat_lt 0 (acts_open agent.signed joined)) (fault.ActsOpen (acts_open agent.signed joined)) (unseen agent.heard joined) none in
    let at_most = ltb-false 0 (acts_open agent.signed joined) both.0 in
    record {
      acts = none_open agent.signed (plan_texts joined) (omega (arith, at_most));
      seen = seen_on agent.heard joined both.1;
    }

pub lacks_nothing : (agent : AgentTold) (joined : JoinedTold) → IsValidated agent.signed agent.heard joined → invalid agent joined ≡ None
lacks_nothing agent joined valid =
    let open_none = all_signed agent.signed (plan_texts joined) valid.acts in
    let nothing = le-ltb 0 (acts_open agent.signed joined) (omega (arith, open_none)) in
    ap (λ (b : Bool). if b then Some (fault.ActsOpen (acts_open agent.signed joined)) else unseen agent.heard joined) nothing
    ∙ unseen_none agent.heard joined valid.seen
