-- What an agent does: which deals it joins, and which texts it signs and when.
use Rattle.std.specs.Prelude.{ℕ, ◌≡◌, ◌+◌, ◌≤◌, Bool, true, false, List, [], ◌∷◌, length, Option, Some, None, Ok}
use Rattle.std.specs.List.{Contains}
use Rattle.dh_base.specs.declared.outcome.Outcome.TheVariants.{Commit, Abort}
use Rattle.act_text.specs.declared.statement.Statement.{Statement}
use Rattle.deal_core.specs.Deals.{index_of_account}
use Rattle.deal_core.specs.Kept.{IsDeal, is_on}
use Rattle.clear_core.specs.TermsKept.{ChecksTerms}
use Rattle.clear_core.specs.declared.terms.Terms.{Terms}
use Rattle.joined_deals.specs.DealTexts.{JoinedTold, plan_texts, start_text, vote_text, texts_of}
use Rattle.joined_deals.specs.Signed.{is_signed, unsigned_in, has_voted}
use Rattle.joined_deals.specs.Heard.{kept_of}
use Rattle.joined_deals.specs.Validated.{IsValidated}
use Rattle.joined_deals.specs.Agents.{AgentTold, deal_joined, with_deal, with_signed, with_statement, IsOpenedAgain}

-- A deal of the agent's house that is new to it and has its account as the party of that index is
-- joined where its terms were found kept, and the keys suffice for all that it may sign.
pub record Joins (agent next : AgentTold) : Type 0 where
  pub joined : JoinedTold
  pub terms : Terms
  pub deal : IsDeal joined.deal
  pub house : joined.deal.house ≡ agent.house
  pub fresh : deal_joined agent.joined joined.deal.id ≡ None
  pub party : index_of_account joined.deal.parties agent.account ≡ Some joined.index
  pub kept : ChecksTerms joined.deal.steps joined.index terms (Ok tt)
  pub keys : length agent.signed + unsigned_in agent.signed agent.joined
      + length (texts_of joined) ≤ agent.size
  pub next_is : next ≡ with_deal agent joined

-- The text is an act of the plan, and no vote of the deal is signed.
pub record IsPlannedAct (agent : AgentTold) (joined : JoinedTold) (text : List ℕ) : Type 0 where
  pub planned : Contains (plan_texts joined) text
  pub not_voted : has_voted agent.signed joined ≡ false

-- The text is the party's commit, the deal is validated, and no abort of it is signed.
pub record IsValidCommit (agent : AgentTold) (joined : JoinedTold) (text : List ℕ) : Type 0 where
  pub text_is : text ≡ vote_text joined Commit
  pub validated : IsValidated agent.signed agent.heard joined
  pub not_aborted : is_signed agent.signed (vote_text joined Abort) ≡ false

-- Which texts an agent may sign next in a deal that it has joined.
pub data MaySignIn (agent : AgentTold) (joined : JoinedTold) (text : List ℕ) : Type 0 where
  act : IsPlannedAct agent joined text → MaySignIn agent joined text
  start : text ≡ start_text joined → MaySignIn agent joined text
  commit : IsValidCommit agent joined text → MaySignIn agent joined text
  abort : text ≡ vote_text joined Abort → MaySignIn agent joined text

-- A text of a joined deal is signed that was not signed before.
pub record Signs (agent next : AgentTold) : Type 0 where
  pub text : List ℕ
  pub joined : JoinedTold
  pub within : Contains agent.joined joined
  pub may : MaySignIn agent joined text
  pub fresh : is_signed agent.signed text ≡ false
  pub next_is : next ≡ with_signed agent text

-- A statement of a ledger of a joined deal on the agent's account is kept, in place of the one
-- before, which is not newer.
pub record Hears (agent next : AgentTold) : Type 0 where
  pub statement : Statement
  pub joined : JoinedTold
  pub found : deal_joined agent.joined statement.deal ≡ Some joined
  pub house : statement.house ≡ agent.house
  pub party : statement.party ≡ agent.account
  pub on : is_on joined.deal.steps statement.ledger ≡ true
  pub newer : (kept : Statement)
      → kept_of agent.heard statement.deal statement.ledger ≡ Some kept
      → kept.at ≤ statement.at
  pub next_is : next ≡ with_statement agent statement

-- The agent's step: by a call, by a closing with the opening behind it, or by nothing.
pub data AgentStep (agent next : AgentTold) : Type 0 where
  joins : Joins agent next → AgentStep agent next
  signs : Signs agent next → AgentStep agent next
  hears : Hears agent next → AgentStep agent next
  reopens : IsOpenedAgain agent next → AgentStep agent next
  stays : next ≡ agent → AgentStep agent next

-- ---- one step after another

-- each agent comes of the one before it by a step
abbrev pub AreSteps : AgentTold → List AgentTold → Type 0
AreSteps agent [] = Unit {0}
AreSteps agent (next ∷ more) = AgentStep agent next × AreSteps next more

-- the agent behind all steps
abbrev pub last_of : AgentTold → List AgentTold → AgentTold
last_of agent [] = agent
last_of agent (next ∷ more) = last_of next more

-- an agent that has joined, signed and heard nothing
pub record IsFirst (agent : AgentTold) : Type 0 where
  pub joined : agent.joined ≡ []
  pub signed : agent.signed ≡ []
  pub heard : agent.heard ≡ []
