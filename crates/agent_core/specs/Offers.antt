-- Deals that an agent might join.
use Rattle.std.specs.Prelude.{ℕ, ◌≡◌, List, Some, None}
use Rattle.deal_core.specs.Deals.{index_of_account}
use Rattle.deal_core.specs.Reading.{IsTextOf}
use Rattle.joined_deals.specs.Agents.{AgentTold}
use Rattle.joined_deals.specs.AgentCalls.{early_refusal}
use Rattle.agent_core.specs.declared.joining.Offer.{Offer}

-- The text is that of the deal, which nothing refuses before its terms are looked at.
pub record IsOffer (agent : AgentTold) (text : List ℕ) (offer : Offer) : Type 0 where
  pub read : IsTextOf offer.deal text
  pub free : early_refusal agent offer.deal ≡ None
  pub party : index_of_account offer.deal.parties agent.account ≡ Some offer.index
