-- What Ann signs, and what the seat enters.
use Rattle.std.proofs.Common.{◌≡◌, ℕ, ◌^◌, ◌<◌, Bool, true, false, cond, ◌&&◌, Ok, List, [], ◌∷◌, ◌++◌, get_or, refl, ap, sym, ◌∙◌, subst, inl, inr, arith}
use Rattle.std.specs.Int.{w16, to_be_bytes}
use Rattle.std.specs.List.{Contains}
use Rattle.std.specs.Str.{bytes_eq}
use Rattle.std.proofs.lemmas.Bool.{and_parts}
use Rattle.std.proofs.lemmas.Slice.Eq.{bytes_eq-Decides}
use Rattle.sha2.proofs.Facts256.{length-sha256}
use Rattle.dh_base.specs.Fields.{AreBytes}
use Rattle.dh_base.specs.Formats.{text_field}
use Rattle.dh_base.specs.declared.outcome.Outcome.TheVariants.{Commit}
use Rattle.dh_base.proofs.SameIds.{same_id-self}
use Rattle.act_text.specs.declared.act.Act.{Act}
use Rattle.act_text.specs.declared.act.Act.TheVariants.{StartDeal, Vote}
use Rattle.act_text.specs.declared.office.Office.TheVariants.{Ledger, Log}
use Rattle.act_text.specs.ActTexts.{act_tag, act_text, choice_byte, ActFits}
use Rattle.act_text.specs.ActReading.{act_of}
use Rattle.act_text.proofs.ActTexts.{act-read}
use Rattle.deal_core.specs.Deals.{DealTold}
use Rattle.clear_core.specs.Clearing.{due_of}
use Rattle.clear_core.specs.declared.plan_act.PlanAct.{PlanAct}
use Rattle.clear_core.specs.declared.plan_act.PlanAct.TheVariants as plan
use Rattle.clear_core.proofs.Moved.{at_head, head_or_tail, none_in_empty}
use Rattle.joined_deals.specs.DealTexts.{planned_act, planned_text}
use Rattle.payoff.specs.Agents.{AgentState, IsSeen, IsPartyOf}
use Rattle.payoff.specs.Moments.{IsSigning, IsSaidAct}
use Rattle.compliant_deals.proofs.ByteTexts.{AllBytes, are_bytes, both, own_text, wide2, hash_bytes, text_field_bytes, deal_bytes}
use Rattle.compliant_deals.proofs.Reading.{Reads, spellable_steps}
use Rattle.promise_met.specs.Loan.{ann, coins, coin, the_text, the_deal, ann_gives}
use Rattle.promise_met.specs.Run.{the_statement}
use Rattle.promise_met.proofs.Dealing.{deal_is, spellable, due_of_ann, reads_first, reads_give}

-- ---- texts of starts and votes

-- what an act of the log has
pub record IsGoodText (act : Act) : Type 0 where
  pub bytes : AreBytes (act_text act)
  pub fits : ActFits act
  pub reads : act_of Log (act_text act) ≡ Ok act

tag_bytes : AllBytes act_tag
tag_bytes = own_text act_tag refl

pub vote_text_is : (index : ℕ) → index < 2 ^ 16 → IsGoodText (Vote the_deal.id index Commit)
vote_text_is index few =
    let id : AllBytes the_deal.id.0 = hash_bytes the_text in
    let fields : AllBytes (the_deal.id.0 ++ (to_be_bytes w16 index ++ (choice_byte Commit ∷ []))) =
    both the_deal.id.0 (to_be_bytes w16 index ++ (choice_byte Commit ∷ [])) id (both (to_be_bytes w16 index) (choice_byte Commit ∷ []) (wide2 index) (omega arith, tt)) in
    let all : AllBytes (act_text (Vote the_deal.id index Commit)) = both act_tag (6 ∷ (the_deal.id.0 ++ (to_be_bytes w16 index ++ (choice_byte Commit ∷ [])))) tag_bytes (omega arith, fields) in
    let bytes = are_bytes (act_text (Vote the_deal.id index Commit)) all in
    let fits : ActFits (Vote the_deal.id index Commit) = (length-sha256 the_text, few) in
    record { bytes = bytes; fits = fits; reads = (act-read Log (act_text (Vote the_deal.id index Commit)) (Vote the_deal.id index Commit) bytes).1 (refl, fits, refl) }

fits_of : (act : PlanAct) → Reads the_deal act → ActFits (planned_act the_deal act)
fits_of act r = ((act-read Ledger (planned_text the_deal act) (planned_act the_deal act) r.bytes).0 r.is).1

pub start_text_is : IsGoodText (StartDeal the_text)
start_text_is =
    let text : AllBytes the_text = deal_bytes the_deal spellable (spellable_steps the_deal deal_is spellable) in
    let all : AllBytes (act_text (StartDeal the_text)) = both act_tag (5 ∷ text_field the_text) tag_bytes (omega arith, text_field_bytes the_text text) in
    let bytes = are_bytes (act_text (StartDeal the_text)) all in
    let fits : ActFits (StartDeal the_text) = fits_of plan.Register reads_first in
    record { bytes = bytes; fits = fits; reads = (act-read Log (act_text (StartDeal the_text)) (StartDeal the_text) bytes).1 (refl, fits, refl) }

pub said : (act : Act) → IsGoodText act → IsSaidAct (act_text act) act
said act good = record { bytes = good.bytes; reads = good.reads }

-- ---- what Ann signs

abbrev first_text : List ℕ
first_text = planned_text the_deal plan.Register

abbrev give_text : List ℕ
give_text = planned_text the_deal ann_gives

abbrev pub joined_agent : AgentState
joined_agent = record { joined = the_deal ∷ []; texts = []; heard = [] }

abbrev pub registered_agent : AgentState
registered_agent = record { joined = the_deal ∷ []; texts = first_text ∷ []; heard = [] }

abbrev pub ready_agent : AgentState
ready_agent = record { joined = the_deal ∷ []; texts = first_text ∷ give_text ∷ []; heard = the_statement ∷ [] }

kind_in : List ℕ → ℕ
kind_in text = get_or text 8 0

other_kind : (m n : ℕ) → (m ≡ n → ⊥) → m ≡ n → ⊥
other_kind m n differ same = differ same

within : (agent : AgentState) → agent.joined ≡ the_deal ∷ [] → IsPartyOf ann agent the_deal 0
within agent is = record { joined = subst (λ (all : List DealTold). Contains all the_deal) (sym is) (at_head the_deal []); party = refl }

pub signs_first : IsSigning ann joined_agent (planned_act the_deal plan.Register)
signs_first = record {
  fits = fits_of plan.Register reads_first;
  bytes = reads_first.bytes;
  fresh = none_in_empty first_text;
  may = record { deal = the_deal; index = 0; within = within joined_agent refl; planned = refl };
}

not_first : first_text ≡ give_text → ⊥
unfolding kind_in
not_first e = other_kind 1 4 (λ k. omega (arith, k)) (ap kind_in e)

pub signs_give : IsSigning ann registered_agent (planned_act the_deal ann_gives)
signs_give = record {
  fits = fits_of ann_gives reads_give;
  bytes = reads_give.bytes;
  fresh = λ there. elim (head_or_tail first_text [] give_text there) [ inl is ↦ not_first is | inr none ↦ none_in_empty give_text none ];
  may = record { deal = the_deal; index = 0; within = within registered_agent refl; planned = (refl, (1, (1, omega arith, refl))) };
}

-- ---- what Ann has seen

seen_here : IsSeen ann (the_statement ∷ []) the_deal 0 coins coin
seen_here = record {
  statement = the_statement;
  kept = rw (same_id-self the_deal.id) refl;
  open_yet = refl;
  moved = refl;
  covers = omega arith;
}

seen : (ledger asset : List ℕ) → 0 < due_of the_deal.steps 0 ledger asset → IsSeen ann (the_statement ∷ []) the_deal 0 ledger asset
seen ledger asset some = by_test (bytes_eq ledger coins && bytes_eq asset coin) refl
  where
    by_test : (b : Bool) → (bytes_eq ledger coins && bytes_eq asset coin) ≡ b → IsSeen ann (the_statement ∷ []) the_deal 0 ledger asset
    by_test false is = absurd (let none : due_of the_deal.steps 0 ledger asset ≡ 0 = due_of_ann ledger asset ∙ ap (λ t. cond t 2 0) is in omega (arith, some, none))
    by_test true is =
        let both_are = and_parts (bytes_eq ledger coins) (bytes_eq asset coin) is in
        let on = (bytes_eq-Decides ledger coins).0 both_are.0 in
        let of = (bytes_eq-Decides asset coin).0 both_are.1 in
        subst (λ (l : List ℕ). IsSeen ann (the_statement ∷ []) the_deal 0 l asset) (sym on) (subst (λ (x : List ℕ). IsSeen ann (the_statement ∷ []) the_deal 0 coins x) (sym of) seen_here)

abbrev vote : Act
vote = Vote the_deal.id 0 Commit

not_vote : (act : PlanAct) (n : ℕ) → get_or (planned_text the_deal act) 8 0 ≡ n → (n ≡ 6 → ⊥) → planned_text the_deal act ≡ act_text vote → ⊥
unfolding kind_in
not_vote act n kind differ e = differ (sym kind ∙ ap kind_in e)

pub signs_vote : IsSigning ann ready_agent vote
signs_vote = record {
  fits = (vote_text_is 0 (omega arith)).fits;
  bytes = (vote_text_is 0 (omega arith)).bytes;
  fresh = λ there. elim (head_or_tail first_text (give_text ∷ []) (act_text vote) there) [
    | inl is ↦ not_vote plan.Register 1 refl (λ k. omega (arith, k)) is
    | inr later ↦ elim (head_or_tail give_text [] (act_text vote) later) [
      | inl is ↦ not_vote ann_gives 4 refl (λ k. omega (arith, k)) is
      | inr none ↦ none_in_empty (act_text vote) none
    ]
  ];
  may = record { deal = the_deal; named = refl; within = within ready_agent refl; seen = seen };
}
