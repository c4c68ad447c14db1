-- What a party signs in a deal that it has joined: the acts of its plan, the start of the deal, and
-- its votes.
use Rattle.std.specs.Prelude.{ℕ, List, [], ◌∷◌, ◌++◌, map, replicate, slice_get, Option, Some, None}
use Rattle.dh_base.specs.declared.id.Id.{Id}
use Rattle.dh_base.specs.declared.outcome.Outcome.{Outcome}
use Rattle.dh_base.specs.declared.outcome.Outcome.TheVariants.{Commit, Abort}
use Rattle.act_text.specs.declared.act.Act.{Act}
use Rattle.act_text.specs.declared.act.Act.TheVariants.{Register, Escrow, Transfer, StartDeal, Vote}
use Rattle.act_text.specs.ActTexts.{act_text}
use Rattle.deal_core.specs.Deals.{DealTold}
use Rattle.deal_core.specs.DealText.{deal_text}
use Rattle.deal_core.specs.declared.party.Party.{Party}
use Rattle.clear_core.specs.Plans.{plan_of}
use Rattle.clear_core.specs.declared.plan_act.PlanAct.{PlanAct}
use Rattle.clear_core.specs.declared.plan_act.PlanAct.TheVariants as plan

-- A joined deal: which party of it one is, and until when one waits for the others.
pub record JoinedTold : Type 0 where
  pub deal : DealTold
  pub index : ℕ
  pub deadline : ℕ

abbrev pub account_in : Option Party → Id
account_in None = record { 0 = replicate 32 0 }
account_in (Some party) = party.account

-- the account of the party of an index; zeros where there is none
abbrev pub account_of : List Party → ℕ → Id
account_of parties index = account_in (slice_get parties index)

-- an act of a plan as it is signed
abbrev pub planned_act : DealTold → PlanAct → Act
planned_act deal plan.Register = Register (deal_text deal)
planned_act deal (plan.Escrow ledger asset amount) = Escrow deal.id ledger asset amount
planned_act deal (plan.Transfer ledger turn to asset amount) =
    Transfer deal.id ledger turn (account_of deal.parties to) asset amount

abbrev pub planned_text : DealTold → PlanAct → List ℕ
planned_text deal act = act_text (planned_act deal act)

-- the acts of the party's plan
abbrev pub plan_of_deal : JoinedTold → List PlanAct
plan_of_deal joined = plan_of joined.deal.steps joined.index

-- their texts, in the order of the plan
abbrev pub plan_texts : JoinedTold → List (List ℕ)
plan_texts joined = map (planned_text joined.deal) (plan_of_deal joined)

-- the text by which the deal is started in the log
abbrev pub start_text : JoinedTold → List ℕ
start_text joined = act_text (StartDeal (deal_text joined.deal))

-- the party's vote
abbrev pub vote_text : JoinedTold → Outcome → List ℕ
vote_text joined choice = act_text (Vote joined.deal.id joined.index choice)

-- all that the party may sign in the deal, a key for each
abbrev pub texts_of : JoinedTold → List (List ℕ)
texts_of joined =
    plan_texts joined
    ++ start_text joined ∷ vote_text joined Commit ∷ vote_text joined Abort ∷ []
