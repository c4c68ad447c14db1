-- How many acts a plan has at most, and how many texts a deal has.
use Rattle.std.proofs.Common.{◌≡◌, ℕ, zero, suc, ◌+◌, ◌*◌, ◌<◌, ◌≤◌, ◌==◌, Bool, true, false, cond, if◌then◌else◌, nat_lt, List, [], ◌∷◌, ◌++◌, map, fold, length, arith, refl, sym, ap, ◌∙◌}
use Rattle.std.specs.List.{count_by, flat_map}
use Rattle.std.specs.BTreeSet.{insert_key}
use Rattle.std.specs.Ordering.{match_ordering}
use Rattle.std.specs.declared.cmp.Ordering.{Ordering}
use Rattle.std.specs.declared.cmp.Ordering.TheVariants.{Less, Equal, Greater}
use Rattle.std.proofs.lemmas.List.{length-append, length-map}
use Rattle.std.proofs.lemmas.List.Sums.{sum_by-cons}
use Rattle.dh_base.specs.declared.outcome.Outcome.TheVariants.{Commit, Abort}
use Rattle.deal_core.specs.Kept.{IsDeal}
use Rattle.deal_core.specs.declared.step.Step.{Step}
use Rattle.clear_core.specs.Clearing.{need_of, turns_of}
use Rattle.clear_core.specs.Pairs.{pair_of, pair_cmp, pairs_of}
use Rattle.clear_core.specs.Plans.{escrow_of, escrows_of, transfer_of, transfers_behind, plan_of}
use Rattle.clear_core.specs.declared.pair.Pair.{Pair}
use Rattle.clear_core.specs.declared.plan_act.PlanAct.{PlanAct}
use Rattle.clear_core.specs.declared.plan_act.PlanAct.TheVariants as plan
use Rattle.joined_deals.specs.DealTexts.{JoinedTold, planned_text, plan_of_deal, plan_texts, start_text, vote_text, texts_of}
use Rattle.joined_deals.specs.Signed.{is_unsigned, weight, unsigned_of, acts_open}
use Rattle.joined_deals.proofs.Elements.{count_by-append}

-- ---- plans

one_more : (pairs : List Pair) (pair : Pair) → length (insert_key pair_cmp pairs pair) ≤ length pairs + 1
one_more [] pair = omega arith
one_more (first ∷ pairs) pair = go (one_more pairs pair) (pair_cmp pair first)
  where
    go : length (insert_key pair_cmp pairs pair) ≤ length pairs + 1 → (o : Ordering) → length (match_ordering o (pair ∷ first ∷ pairs) (first ∷ pairs) (first ∷ insert_key pair_cmp pairs pair)) ≤ length (first ∷ pairs) + 1
    go rest Less = omega arith
    go rest Equal = omega arith
    go rest Greater = omega (arith, rest)

all_more : (found pairs : List Pair) → length (fold (insert_key pair_cmp) found pairs) ≤ length found + length pairs
all_more found [] = omega arith
all_more found (pair ∷ pairs) =
    let one = one_more found pair in
    let rest = all_more (insert_key pair_cmp found pair) pairs in
    omega (arith, one, rest)

few_pairs : (steps : List Step) → length (pairs_of steps) ≤ length steps
few_pairs steps = omega (arith, all_more [] (map pair_of steps), length-map steps pair_of)

few_escrows : (steps : List Step) (party : ℕ) (pairs : List Pair) → length (escrows_of steps party pairs) ≤ length pairs
few_escrows steps party [] = omega arith
few_escrows steps party (pair ∷ pairs) =
    let rest = few_escrows steps party pairs in
    let one = one_at_most (nat_lt 0 (need_of steps party pair.ledger pair.asset)) in
    let both = length-append (escrow_of steps party pair) (escrows_of steps party pairs) in
    omega (arith, rest, one, both)
  where
    one_at_most : (b : Bool) → length (if b then plan.Escrow pair.ledger pair.asset (need_of steps party pair.ledger pair.asset) ∷ [] else []) ≤ 1
    one_at_most true = omega arith
    one_at_most false = omega arith

few_transfers : (party : ℕ) (before steps : List Step) → length (transfers_behind party before steps) ≤ length steps
few_transfers party before [] = omega arith
few_transfers party before (step ∷ steps) =
    let rest = few_transfers party (before ++ step ∷ []) steps in
    let one = one_at_most (party == step.from) in
    let both = length-append (transfer_of party before step) (transfers_behind party (before ++ step ∷ []) steps) in
    omega (arith, rest, one, both)
  where
    one_at_most : (b : Bool) → length (if b then plan.Transfer step.ledger (turns_of before party step.ledger) step.to step.asset step.amount ∷ [] else []) ≤ 1
    one_at_most true = omega arith
    one_at_most false = omega arith

pub short_plan : (joined : JoinedTold) → IsDeal joined.deal → length (plan_texts joined) ≤ 129
short_plan joined kept =
    let steps = joined.deal.steps in
    let all = length-map (plan_of_deal joined) (planned_text joined.deal) in
    let both = length-append (escrows_of steps joined.index (pairs_of steps)) (transfers_behind joined.index [] steps) in
    let escrows = few_escrows steps joined.index (pairs_of steps) in
    let pairs = few_pairs steps in
    let transfers = few_transfers joined.index [] steps in
    let few = kept.kept.few_steps in
    omega (arith, all, both, escrows, pairs, transfers, few)

-- ---- all texts

pub length_texts : (joined : JoinedTold) → length (texts_of joined) ≡ 3 + length (plan_texts joined)
length_texts joined = omega (arith, length-append (plan_texts joined) (start_text joined ∷ vote_text joined Commit ∷ vote_text joined Abort ∷ []))

pub unsigned_parts : (signed : List (List ℕ)) (joined : JoinedTold) → unsigned_of signed joined ≡ acts_open signed joined + weight signed (start_text joined) + weight signed (vote_text joined Commit) + weight signed (vote_text joined Abort)
unsigned_parts signed joined =
    let s = start_text joined in
    let k = vote_text joined Commit in
    let a = vote_text joined Abort in
    let all = count_by-append (is_unsigned signed) (plan_texts joined) (s ∷ k ∷ a ∷ []) in
    let one = sum_by-cons (weight signed) s (k ∷ a ∷ []) in
    let two = sum_by-cons (weight signed) k (a ∷ []) in
    let three = sum_by-cons (weight signed) a [] in
    omega (arith, all, one, two, three)
