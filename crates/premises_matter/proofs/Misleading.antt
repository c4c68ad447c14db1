-- Ann hears what no ledger said, and commits by it.
use Rattle.std.proofs.Common.{◌≡◌, ℕ, ◌<◌, get_or, Some, List, [], ◌∷◌, slice_get, refl, ap, sym, ◌∙◌, subst, inl, inr, arith}
use Rattle.std.specs.List.{Contains}
use Rattle.dh_base.specs.declared.outcome.Outcome.TheVariants.{Commit}
use Rattle.act_text.specs.declared.act.Act.{Act}
use Rattle.act_text.specs.declared.act.Act.TheVariants.{StartDeal, Vote}
use Rattle.act_text.specs.declared.office.Office.TheVariants.{Ledger}
use Rattle.act_text.specs.ActTexts.{act_text}
use Rattle.act_text.specs.ActReading.{act_of}
use Rattle.deal_core.specs.Deals.{DealTold}
use Rattle.clear_core.specs.Clearing.{due_of}
use Rattle.clear_core.specs.declared.plan_act.PlanAct.TheVariants as plan
use Rattle.clear_core.proofs.Moved.{at_head, head_or_tail, none_in_empty}
use Rattle.ledger_rows.specs.declared.entry.Entry.{Entry}
use Rattle.joined_deals.specs.DealTexts.{planned_act, planned_text}
use Rattle.compliant_deals.specs.Parts.{act_by}
use Rattle.compliant_deals.specs.Complying.{entry_of}
use Rattle.payoff.specs.Agents.{AgentState, IsSeen}
use Rattle.payoff.specs.Worlds.{HasOneText}
use Rattle.payoff.specs.Moments.{texts_read, IsOpening, IsRun, IsGiven, IsSigning, AreUnforged, after_all}
use Rattle.payoff.specs.Promise.{HasCertified, IsSettledIn, IsCompliantIn}
use Rattle.payoff.proofs.Lists.{every_append}
use Rattle.promise_met.specs.Loan.{ann, coins, coin, the_text, the_deal, register_entry, the_log}
use Rattle.promise_met.specs.Run.{the_statement}
use Rattle.promise_met.proofs.Dealing.{text_of_deal, accepted, reads_first, reads_escrow}
use Rattle.promise_met.proofs.Signing.{joined_agent, registered_agent, said, vote_text_is, start_text_is, signs_first, signs_vote}
use Rattle.promise_met.proofs.Running.{Decides, next_at, settles_by_claim}
use Rattle.promise_met.proofs.Meeting.{opens, read_texts, one_of, entered_is, certified_in, registered}
use Rattle.premises_matter.specs.Misled.{house_with_lie, unlent_entries, misled_run}
use Rattle.premises_matter.proofs.Parts.{found, nobody, settles_unlent}

pub lie_opens : IsOpening (record house_with_lie { pool = [] })
lie_opens = opens

-- ---- what Ann signs

abbrev misled_agent : AgentState
misled_agent = record { joined = the_deal ∷ []; texts = planned_text the_deal plan.Register ∷ []; heard = the_statement ∷ [] }

abbrev vote : Act
vote = Vote the_deal.id 0 Commit

kind_in : List ℕ → ℕ
kind_in text = get_or text 8 0

other_kind : (m n : ℕ) → (m ≡ n → ⊥) → m ≡ n → ⊥
other_kind m n differ same = differ same

no_vote : planned_text the_deal plan.Register ≡ act_text vote → ⊥
unfolding kind_in
no_vote e = other_kind 1 6 (λ k. omega (arith, k)) (ap kind_in e)

there_is : signs_vote.may.deal ≡ the_deal
there_is = elim (head_or_tail the_deal [] signs_vote.may.deal signs_vote.may.within.joined) [ inl is ↦ sym is | inr none ↦ absurd (none_in_empty signs_vote.may.deal none) ]

seen : (ledger asset : List ℕ) → 0 < due_of the_deal.steps 0 ledger asset → IsSeen ann (the_statement ∷ []) the_deal 0 ledger asset
seen = subst (λ (d : DealTold). (ledger asset : List ℕ) → 0 < due_of d.steps 0 ledger asset → IsSeen ann (the_statement ∷ []) d 0 ledger asset) there_is signs_vote.may.seen

signs_misled : IsSigning ann misled_agent vote
signs_misled = record {
  fits = signs_vote.fits;
  bytes = signs_vote.bytes;
  fresh = λ there. elim (head_or_tail (planned_text the_deal plan.Register) [] (act_text vote) there) [ inl is ↦ no_vote is | inr none ↦ none_in_empty (act_text vote) none ];
  may = record { deal = the_deal; named = refl; within = record { joined = at_head the_deal []; party = refl }; seen = seen };
}

-- ---- the run

abbrev second : Entry
second = entry_of the_deal (act_by 1 (plan.Escrow coins coin 3)) 0

pub misled : Decides → IsRun house_with_lie misled_run
misled decides =
    let h = accepted.accepted in (
      text_of_deal,
      (
        (λ agent is. found (λ (a : AgentState). IsSigning ann a (planned_act the_deal plan.Register)) joined_agent agent is signs_first),
        (
          (λ ledger is. next_at [] register_entry h.0 ledger is),
          (
            (λ ledger is. next_at (register_entry ∷ []) second h.1.0 ledger is),
            (
              at_head the_statement [],
              (
                (λ agent is. found (λ (a : AgentState). IsSigning ann a vote) misled_agent agent is signs_misled),
                (
                  (said (StartDeal the_text) start_text_is, (the_deal, text_of_deal)),
                  (
                    (said vote (vote_text_is 0 (omega arith)), record { deal = the_deal; read = record { read = text_of_deal; carried = at_head the_text _ }; named = refl; party = refl }),
                    (
                      (said (Vote the_deal.id 1 Commit) (vote_text_is 1 (omega arith)), record { deal = the_deal; read = record { read = text_of_deal; carried = at_head the_text _ }; named = refl; party = refl }),
                      ((λ ledger is. settles_by_claim decides unlent_entries settles_unlent ledger is), tt),
                    ),
                  ),
                ),
              ),
            ),
          ),
        ),
      ),
    )

-- ---- the premises

signed : (q : ℕ) (text : List ℕ) (a b : AgentState) → Some a ≡ Some b → slice_get a.texts q ≡ Some text → slice_get b.texts q ≡ Some text
signed q text a b e there = found (λ (x : AgentState). slice_get x.texts q ≡ Some text) a b e there

unforged : AreUnforged house_with_lie misled_run
unforged = (
  tt,
  (
    tt,
    (
      (λ agent is. signed 0 _ _ agent is refl),
      (
        (λ agent is. nobody _ agent is),
        (tt, (tt, ((λ agent is. nobody _ agent is), ((λ agent is. signed 1 _ _ agent is refl), ((λ agent is. nobody _ agent is), (tt, tt)))))),
      ),
    ),
  ),
)

one_text : HasOneText (after_all misled_run house_with_lie)
one_text text other here there same =
    one_of (after_all misled_run house_with_lie).texts (
      refl,
      every_append (λ (t : List ℕ). t ≡ the_text) (texts_read (act_of Ledger (planned_text the_deal (plan.Escrow coins coin 3)))) _ (read_texts (plan.Escrow coins coin 3) reads_escrow tt)
          (every_append (λ (t : List ℕ). t ≡ the_text) (texts_read (act_of Ledger (planned_text the_deal plan.Register))) _ (read_texts plan.Register reads_first (refl, tt)) (refl, tt)),
    ) text other here there

pub misled_given : IsGiven house_with_lie misled_run
misled_given = record { unforged = unforged; one_text = one_text }

pub misled_certified : HasCertified (after_all misled_run house_with_lie) (the_log ∷ [])
misled_certified = certified_in (after_all misled_run house_with_lie) entered_is refl

pub misled_settles : IsSettledIn (after_all misled_run house_with_lie) coins the_deal.id Commit unlent_entries
misled_settles = record { ledger = _; here = refl; rest = []; parts = refl }

pub misled_complies : IsCompliantIn (after_all misled_run house_with_lie) unlent_entries the_deal.id 0 ann
misled_complies = record {
  registrant = ann;
  text = the_text;
  registered = registered (second ∷ []);
  deal = the_deal;
  reads = text_of_deal;
  party = refl;
  agent = _;
  complies = refl;
}
