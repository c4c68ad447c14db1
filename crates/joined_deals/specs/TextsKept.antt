-- The texts that are kept with a joined deal.
use Rattle.std.specs.Prelude.{ℕ, ◌≡◌, ◌≤◌, ◌<◌, List, length}
use Rattle.dh_base.specs.declared.outcome.Outcome.TheVariants.{Commit, Abort}
use Rattle.deal_core.specs.Deals.{DealTold}
use Rattle.clear_core.specs.declared.plan_act.PlanAct.{PlanAct}
use Rattle.joined_deals.specs.DealTexts.{JoinedTold, plan_of_deal, plan_texts, start_text, vote_text}
use Rattle.joined_deals.specs.TextSizes.{most_text, AreShort}

abbrev pub joined_told : DealTold → ℕ → ℕ → JoinedTold
joined_told deal index deadline = record { deal = deal; index = index; deadline = deadline }

-- The plan and the texts are the deal's, and each text fits an envelope.
pub record KeepsTexts (joined : JoinedTold) (plan : List PlanAct) (acts : List (List ℕ))
    (start commit abort : List ℕ) : Type 0 where
  pub index : joined.index < length joined.deal.parties
  pub plan_is : plan ≡ plan_of_deal joined
  pub acts_are : acts ≡ plan_texts joined
  pub start_is : start ≡ start_text joined
  pub commit_is : commit ≡ vote_text joined Commit
  pub abort_is : abort ≡ vote_text joined Abort
  pub short_acts : AreShort acts
  pub short_start : length start ≤ most_text
  pub short_commit : length commit ≤ most_text
  pub short_abort : length abort ≤ most_text
