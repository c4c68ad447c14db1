-- What an agent is seen as: the party that it acts for, what it has joined and signed, and what it
-- has heard.
use Rattle.std.specs.Prelude.{ℕ, ◌≡◌, ◌+◌, ◌≤◌, ◌↔◌, Bool, List, [], ◌++◌, ◌∷◌, length, Option}
use Rattle.std.specs.List.{find, Contains}
use Rattle.dh_base.specs.declared.id.Id.{Id}
use Rattle.dh_base.specs.Ids.{same_id}
use Rattle.act_text.specs.declared.statement.Statement.{Statement}
use Rattle.joined_deals.specs.DealTexts.{JoinedTold}
use Rattle.joined_deals.specs.Signed.{unsigned_in}
use Rattle.joined_deals.specs.Heard.{with_heard}

pub record AgentTold : Type 0 where
  -- the account of its ring, and how many keys that has
  pub account : Id
  pub size : ℕ
  pub house : Id
  pub joined : List JoinedTold
  -- the texts that its keys 0, 1, 2 and so on have signed
  pub signed : List (List ℕ)
  -- the statements that are kept, one for each deal and ledger
  pub heard : List Statement

abbrev pub is_of_id : Id → JoinedTold → Bool
is_of_id id joined = same_id id joined.deal.id

-- the deal of that id, if it is joined
abbrev pub deal_joined : List JoinedTold → Id → Option JoinedTold
deal_joined deals id = find (is_of_id id) deals

-- The keys suffice for all that is not signed yet.
abbrev pub HasKeys : AgentTold → Type 0
HasKeys agent = length agent.signed + unsigned_in agent.signed agent.joined ≤ agent.size

-- ---- what changes

abbrev pub with_deal : AgentTold → JoinedTold → AgentTold
with_deal agent joined = record agent { joined = agent.joined ++ joined ∷ [] }

abbrev pub with_signed : AgentTold → List ℕ → AgentTold
with_signed agent text = record agent { signed = agent.signed ++ text ∷ [] }

abbrev pub with_statement : AgentTold → Statement → AgentTold
with_statement agent statement = record agent { heard = with_heard agent.heard statement }

-- the same deals, in whatever order
abbrev pub AreSameDeals : List JoinedTold → List JoinedTold → Type 0
AreSameDeals deals others = (joined : JoinedTold) → Contains deals joined ↔ Contains others joined

-- The agent is opened again: it has its deals and texts, and has heard nothing.
pub record IsOpenedAgain (agent next : AgentTold) : Type 0 where
  pub next_is : next ≡ record agent { joined = next.joined; heard = [] }
  pub deals : AreSameDeals agent.joined next.joined
  pub keys : HasKeys next
