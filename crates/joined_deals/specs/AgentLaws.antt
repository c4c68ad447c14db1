-- What holds of an agent behind every list of steps.
use Rattle.std.specs.Prelude.{ℕ, ◌≡◌, ◌↔◌, ◌<◌, List, slice_get, Some, None}
use Rattle.std.specs.List.{Contains}
use Rattle.dh_base.specs.declared.id.Id.{Id}
use Rattle.dh_base.specs.declared.outcome.Outcome.{Outcome}
use Rattle.dh_base.specs.declared.outcome.Outcome.TheVariants.{Commit, Abort}
use Rattle.act_text.specs.declared.statement.Statement.{Statement}
use Rattle.clear_core.specs.declared.terms.Terms.{Terms}
use Rattle.deal_core.specs.Deals.{index_of_account}
use Rattle.deal_core.specs.Kept.{IsDeal}
use Rattle.joined_deals.specs.DealTexts.{JoinedTold, plan_texts, vote_text, texts_of}
use Rattle.joined_deals.specs.Validated.{IsValidated}
use Rattle.joined_deals.specs.AgentCalls.{IsJoinable, invalid, unjoined, next_refusal, commit_refusal, hear_refusal, signed_if, start_in, vote_in, next_in, tick_in, newer_kept, heard_if}
use Rattle.joined_deals.specs.Agents.{AgentTold, HasKeys, with_deal}
use Rattle.joined_deals.specs.AgentSteps.{AgentStep, AreSteps, last_of, IsFirst}

-- the text is one of a joined deal's
pub record IsMeant (agent : AgentTold) (text : List ℕ) : Type 0 where
  pub joined : JoinedTold
  pub within : Contains agent.joined joined
  pub text_of : Contains (texts_of joined) text

-- A joined deal is a deal of the house in which the account is the party of that index. So its
-- votes carry the index at which the account stands in the deal's text.
pub record IsJoinedRight (agent : AgentTold) (joined : JoinedTold) : Type 0 where
  pub deal : IsDeal joined.deal
  pub house : joined.deal.house ≡ agent.house
  pub party : index_of_account joined.deal.parties agent.account ≡ Some joined.index

pub record IsSound (agent : AgentTold) : Type 0 where
  -- no later text lacks a key
  pub keys : HasKeys agent
  pub deals : (joined : JoinedTold) → Contains agent.joined joined → IsJoinedRight agent joined
  -- an id has one joined deal
  pub one_deal : (joined other : JoinedTold) → Contains agent.joined joined
      → Contains agent.joined other → joined.deal.id ≡ other.deal.id → joined ≡ other
  -- only texts of plans, starts and votes of joined deals are signed
  pub meant : (text : List ℕ) → Contains agent.signed text → IsMeant agent text
  -- a text stands under one key number
  pub one_key : (q r : ℕ) (text : List ℕ) → slice_get agent.signed q ≡ Some text
      → slice_get agent.signed r ≡ Some text → q ≡ r
  -- no act of a plan is signed behind a vote of its deal
  pub acts_first : (joined : JoinedTold) (choice : Outcome) (q r : ℕ) (text : List ℕ)
      → Contains agent.joined joined
      → slice_get agent.signed q ≡ Some (vote_text joined choice)
      → slice_get agent.signed r ≡ Some text → Contains (plan_texts joined) text → r < q
  -- no commit is signed behind an abort of its deal
  pub commit_first : (joined : JoinedTold) (q r : ℕ) → Contains agent.joined joined
      → slice_get agent.signed q ≡ Some (vote_text joined Abort)
      → slice_get agent.signed r ≡ Some (vote_text joined Commit) → r < q

-- So it is behind all calls of an agent that was opened over empty tables, closings and openings
-- among them.
abbrev pub StaysSound : Type 0
StaysSound = (agent : AgentTold) (more : List AgentTold) → IsFirst agent → AreSteps agent more
    → IsSound (last_of agent more)

-- A commit of a joined deal is refused for nothing that is open or unseen exactly where the deal is
-- validated.
abbrev pub ValidatedExactly : Type 0
ValidatedExactly = (agent : AgentTold) (joined : JoinedTold) →
    (invalid agent joined ≡ None) ↔ IsValidated agent.signed agent.heard joined

-- What each call changes where it is not refused is a step of the agent.
pub record CallsAreSteps : Type 0 where
  pub joins : (agent : AgentTold) (text : List ℕ) (terms : Terms) (joined : JoinedTold)
      → IsJoinable agent text terms joined → AgentStep agent (with_deal agent joined)
  pub next : (agent : AgentTold) (deal : Id) → next_refusal agent deal ≡ None
      → AgentStep agent (signed_if agent (next_in agent deal))
  pub starts : (agent : AgentTold) (deal : Id) → unjoined agent deal ≡ None
      → AgentStep agent (signed_if agent (start_in agent deal))
  pub commits : (agent : AgentTold) (deal : Id) → commit_refusal agent deal ≡ None
      → AgentStep agent (signed_if agent (vote_in agent deal Commit))
  pub aborts : (agent : AgentTold) (deal : Id) → unjoined agent deal ≡ None
      → AgentStep agent (signed_if agent (vote_in agent deal Abort))
  pub ticks : (agent : AgentTold) (deal : Id) (now : ℕ) → unjoined agent deal ≡ None
      → AgentStep agent (signed_if agent (tick_in agent deal now))
  pub hears : (agent : AgentTold) (statement : Statement) → hear_refusal agent statement ≡ None
      → AgentStep agent (heard_if agent statement (newer_kept agent statement))
