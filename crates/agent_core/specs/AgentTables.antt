-- What the tables of an agent stand for, and what it commits.
use Rattle.std.specs.Prelude.{ℕ, ◌≡◌, ◌<◌, ◌^◌, List, [], ◌∷◌, ◌++◌, codes, Option, Some}
use Rattle.std.specs.Int.{w64, to_be_bytes}
use Rattle.std.specs.Option.{option_map}
use Rattle.std.specs.List.{Contains}
use Rattle.std.specs.FinMap.{get}
use Rattle.sha2.specs.Sha256.{sha256}
use Rattle.dh_base.specs.declared.id.Id.{Id}
use Rattle.keeper_core.specs.declared.change.Change.{Change}
use Rattle.keeper_core.specs.declared.change.Change.TheVariants.{Put}
use Rattle.keeper_core.specs.Tables.{Tables}
use Rattle.key_ring.specs.UsedTexts as used
use Rattle.deal_core.specs.Deals.{index_of_account}
use Rattle.deal_core.specs.DealText.{deal_text}
use Rattle.deal_core.specs.Reading.{IsTextOf}
use Rattle.joined_deals.specs.DealTexts.{JoinedTold}
use Rattle.joined_deals.specs.Agents.{AgentTold, deal_joined, HasKeys}

-- the tables of what a keeper is, and of joined deals
abbrev pub form_tab : ℕ
form_tab = 1

abbrev pub deal_tab : ℕ
deal_tab = 12

abbrev pub form_key : List ℕ
form_key = codes "m"

-- the identity of the agent of an account in a house
abbrev pub identity_of : Id → Id → Id
identity_of house account = record { 0 = sha256 (house.0 ++ account.0) }

-- the form of the tables, the role of an agent, and its identity
abbrev pub form_text : Id → Id → List ℕ
form_text house account = 1 ∷ 3 ∷ (identity_of house account).0

-- what is kept of a joined deal: until when it is waited for, and its text
abbrev pub kept_text : JoinedTold → List ℕ
kept_text joined = to_be_bytes w64 joined.deadline ++ deal_text joined.deal

-- what stands under a key: what is kept of the joined deal of that id
abbrev pub kept_at : List JoinedTold → List ℕ → Option (List ℕ)
kept_at deals key = option_map kept_text (deal_joined deals (record { 0 = key }))

-- The tables are those of the agent.
pub record StandsFor (tables : Tables) (agent : AgentTold) : Type 0 where
  pub form : get tables (form_tab, form_key) ≡ Some (form_text agent.house agent.account)
  pub used : used.StandsFor tables agent.signed
  pub deals : (key : List ℕ) → get tables (deal_tab, key) ≡ kept_at agent.joined key

-- The deal is one of the house that is read from its text, and the account is the party of that
-- index.
pub record IsOwn (house account : Id) (joined : JoinedTold) : Type 0 where
  pub read : IsTextOf joined.deal (deal_text joined.deal)
  pub small : joined.deadline < 2 ^ 64
  pub housed : joined.deal.house ≡ house
  pub party : index_of_account joined.deal.parties account ≡ Some joined.index

-- Each of the deals is its own, and the one of its id.
pub record AreOwn (house account : Id) (deals : List JoinedTold) : Type 0 where
  pub each : (joined : JoinedTold) → Contains deals joined → IsOwn house account joined
  pub one : (joined : JoinedTold) → Contains deals joined
      → deal_joined deals joined.deal.id ≡ Some joined

-- The tables stand for the agent, which is one that can be opened.
pub record IsState (tables : Tables) (agent : AgentTold) : Type 0 where
  pub stands : StandsFor tables agent
  pub own : AreOwn agent.house agent.account agent.joined
  pub keys : HasKeys agent

-- ---- what is committed

-- at the first opening
abbrev pub form_changes : Id → Id → List Change
form_changes house account = Put form_tab form_key (form_text house account) ∷ []

-- when a deal is joined
abbrev pub deal_changes : JoinedTold → List Change
deal_changes joined = Put deal_tab joined.deal.id.0 (kept_text joined) ∷ []
