-- The texts of a deal tell its id and their kinds.
use Rattle.std.proofs.Common.{◌≡◌, ℕ, zero, suc, ◌+◌, ◌<◌, ◌≤◌, ◌⊎◌, inl, inr, Bool, true, false, cond, ◌==◌, ◌||◌, if◌then◌else◌, List, [], ◌∷◌, ◌++◌, map, length, get_or, take, drop, arith, refl, sym, ap, subst, ◌∙◌}
use Rattle.std.specs.Int.{w16, w32, w64, to_be_bytes}
use Rattle.std.specs.List.{Contains}
use Rattle.std.proofs.lemmas.List.{append_cancel_left}
use Rattle.sha2.specs.Sha256.{sha256}
use Rattle.sha2.proofs.Facts256.{length-sha256}
use Rattle.dh_base.specs.declared.id.Id.{Id}
use Rattle.dh_base.specs.declared.outcome.Outcome.{Outcome}
use Rattle.dh_base.specs.declared.outcome.Outcome.TheVariants.{Commit, Abort}
use Rattle.dh_base.specs.Formats.{text_field}
use Rattle.act_text.specs.declared.act.Act.{Act}
use Rattle.act_text.specs.declared.act.Act.TheVariants.{Register, Escrow, Transfer, StartDeal, Vote}
use Rattle.act_text.specs.ActTexts.{act_text, act_fields, choice_byte}
use Rattle.deal_core.specs.Deals.{DealTold}
use Rattle.deal_core.specs.DealText.{deal_text}
use Rattle.deal_core.specs.Kept.{IsDeal}
use Rattle.clear_core.specs.declared.plan_act.PlanAct.{PlanAct}
use Rattle.clear_core.specs.declared.plan_act.PlanAct.TheVariants as plan
use Rattle.clear_core.proofs.Moved.{at_head, in_tail, head_or_tail, none_in_empty}
use Rattle.joined_deals.specs.DealTexts.{JoinedTold, planned_text, plan_of_deal, plan_texts, start_text, vote_text, texts_of}
use Rattle.joined_deals.proofs.Elements.{of_map, in_either, in_front, in_back}

-- ---- the kind of a text

kind_in : List ℕ → ℕ
kind_in text = get_or text 8 0

apart : (m n : ℕ) → m ≡ n → (m ≡ n → ⊥) → ⊥
apart m n same differ = differ same

-- an act of a plan is neither a start nor a vote
pub planned_no_start : (deal : DealTold) (act : PlanAct) (joined : JoinedTold) → planned_text deal act ≡ start_text joined → ⊥
unfolding kind_in
planned_no_start deal plan.Register joined e = apart 1 5 (ap kind_in e) (λ k. omega (arith, k))
planned_no_start deal (plan.Escrow ledger asset amount) joined e = apart 3 5 (ap kind_in e) (λ k. omega (arith, k))
planned_no_start deal (plan.Transfer ledger turn to asset amount) joined e = apart 4 5 (ap kind_in e) (λ k. omega (arith, k))

pub planned_no_vote : (deal : DealTold) (act : PlanAct) (joined : JoinedTold) (choice : Outcome) → planned_text deal act ≡ vote_text joined choice → ⊥
unfolding kind_in
planned_no_vote deal plan.Register joined choice e = apart 1 6 (ap kind_in e) (λ k. omega (arith, k))
planned_no_vote deal (plan.Escrow ledger asset amount) joined choice e = apart 3 6 (ap kind_in e) (λ k. omega (arith, k))
planned_no_vote deal (plan.Transfer ledger turn to asset amount) joined choice e = apart 4 6 (ap kind_in e) (λ k. omega (arith, k))

pub start_no_vote : (joined other : JoinedTold) (choice : Outcome) → start_text joined ≡ vote_text other choice → ⊥
unfolding kind_in
start_no_vote joined other choice e = apart 5 6 (ap kind_in e) (λ k. omega (arith, k))

pub planned_is : (joined : JoinedTold) (text : List ℕ) → Contains (plan_texts joined) text → (act : PlanAct) × (text ≡ planned_text joined.deal act)
planned_is joined text here = let there = of_map (planned_text joined.deal) (plan_of_deal joined) text here in (there.0, there.2)

pub no_start_planned : (joined other : JoinedTold) → Contains (plan_texts joined) (start_text other) → ⊥
no_start_planned joined other here = let there = planned_is joined (start_text other) here in planned_no_start joined.deal there.0 other (sym there.1)

pub no_vote_planned : (joined other : JoinedTold) (choice : Outcome) → Contains (plan_texts joined) (vote_text other choice) → ⊥
no_vote_planned joined other choice here = let there = planned_is joined (vote_text other choice) here in planned_no_vote joined.deal there.0 other choice (sym there.1)

-- the two votes of a party differ
pub votes_differ : (joined : JoinedTold) → vote_text joined Commit ≡ vote_text joined Abort → ⊥
votes_differ joined e =
    let fields = ap (λ (t : List ℕ). drop 9 t) e in
    let behind_id = append_cancel_left joined.deal.id.0 (to_be_bytes w16 joined.index ++ (choice_byte Commit ∷ [])) (to_be_bytes w16 joined.index ++ (choice_byte Abort ∷ [])) fields in
    let last = append_cancel_left (to_be_bytes w16 joined.index) (choice_byte Commit ∷ []) (choice_byte Abort ∷ []) behind_id in
    apart 2 3 (ap (λ (t : List ℕ). get_or t 0 0) last) (λ k. omega (arith, k))

-- ---- the deal of a text

id_by : ℕ → List ℕ → List ℕ
id_by kind text = if (kind == 1) || (kind == 5) then sha256 (drop 13 text) else take 32 (drop 9 text)

pub id_in : List ℕ → List ℕ
id_in text = id_by (get_or text 8 0) text

front : (xs ys : List ℕ) → take (length xs) (xs ++ ys) ≡ xs
front [] [] = refl
front [] (y ∷ ys) = refl
front (x ∷ xs) ys = ap (λ (t : List ℕ). x ∷ t) (front xs ys)

front_of : (n : ℕ) (xs ys : List ℕ) → length xs ≡ n → take n (xs ++ ys) ≡ xs
front_of n xs ys is = subst (λ (k : ℕ). take k (xs ++ ys) ≡ xs) is (front xs ys)

behind_length : (text : List ℕ) → drop 4 (text_field text) ≡ text
behind_length text = refl

module _ (deal : DealTold) (kept : IsDeal deal) where
  wide : length deal.id.0 ≡ 32
  wide = ap length kept.id ∙ length-sha256 (deal_text deal)

  by_text : sha256 (drop 4 (text_field (deal_text deal))) ≡ deal.id.0
  by_text = ap sha256 (behind_length (deal_text deal)) ∙ sym kept.id

  planned_id : (act : PlanAct) → id_in (planned_text deal act) ≡ deal.id.0
  unfolding id_in id_by
  planned_id plan.Register = by_text
  planned_id (plan.Escrow ledger asset amount) = front_of 32 deal.id.0 _ wide
  planned_id (plan.Transfer ledger turn to asset amount) = front_of 32 deal.id.0 _ wide

pub id_of_text : (joined : JoinedTold) (text : List ℕ) → IsDeal joined.deal → Contains (texts_of joined) text → id_in text ≡ joined.deal.id.0
unfolding id_in id_by
id_of_text joined text kept here = elim (in_either (plan_texts joined) (start_text joined ∷ vote_text joined Commit ∷ vote_text joined Abort ∷ []) text here) [
  | inl planned ↦ (let there = planned_is joined text planned in ap id_in there.1 ∙ planned_id joined.deal kept there.0)
  | inr later ↦ elim (head_or_tail (start_text joined) (vote_text joined Commit ∷ vote_text joined Abort ∷ []) text later) [
    | inl start ↦ subst (λ (t : List ℕ). id_in t ≡ joined.deal.id.0) start (by_text joined.deal kept)
    | inr votes ↦ elim (head_or_tail (vote_text joined Commit) (vote_text joined Abort ∷ []) text votes) [
      | inl commit ↦ subst (λ (t : List ℕ). id_in t ≡ joined.deal.id.0) commit (front_of 32 joined.deal.id.0 _ (wide joined.deal kept))
      | inr last ↦ elim (head_or_tail (vote_text joined Abort) [] text last) [
        | inl abort ↦ subst (λ (t : List ℕ). id_in t ≡ joined.deal.id.0) abort (front_of 32 joined.deal.id.0 _ (wide joined.deal kept))
        | inr none ↦ absurd (none_in_empty text none)
      ]
    ]
  ]
]

-- deals that share a text have one id
pub one_id : (joined other : JoinedTold) (text : List ℕ) → IsDeal joined.deal → IsDeal other.deal → Contains (texts_of joined) text → Contains (texts_of other) text → joined.deal.id ≡ other.deal.id
one_id joined other text kept known one two = ap (λ (bytes : List ℕ). record { 0 = bytes }) (sym (id_of_text joined text kept one) ∙ id_of_text other text known two)

-- ---- which texts a deal has

pub has_start : (joined : JoinedTold) → Contains (texts_of joined) (start_text joined)
has_start joined = in_back (plan_texts joined) (start_text joined ∷ vote_text joined Commit ∷ vote_text joined Abort ∷ []) (start_text joined) (at_head (start_text joined) (vote_text joined Commit ∷ vote_text joined Abort ∷ []))

pub has_vote : (joined : JoinedTold) (choice : Outcome) → Contains (texts_of joined) (vote_text joined choice)
has_vote joined Commit =
    let c = vote_text joined Commit in
    let a = vote_text joined Abort in
    in_back (plan_texts joined) (start_text joined ∷ c ∷ a ∷ []) c (in_tail (start_text joined) (c ∷ a ∷ []) c (at_head c (a ∷ [])))
has_vote joined Abort =
    let c = vote_text joined Commit in
    let a = vote_text joined Abort in
    in_back (plan_texts joined) (start_text joined ∷ c ∷ a ∷ []) a (in_tail (start_text joined) (c ∷ a ∷ []) a (in_tail c (a ∷ []) a (at_head a [])))

pub has_act : (joined : JoinedTold) (text : List ℕ) → Contains (plan_texts joined) text → Contains (texts_of joined) text
has_act joined text here = in_front (plan_texts joined) (start_text joined ∷ vote_text joined Commit ∷ vote_text joined Abort ∷ []) text here
