-- What each call of an agent is refused for, what it signs, and what then changes.
use Rattle.std.specs.Prelude.{ℕ, ◌≡◌, ◌+◌, ◌<◌, ◌≤◌, ◌==◌, ◌||◌, Bool, true, false, not, nat_lt, if◌then◌else◌, List, [], ◌∷◌, length, slice_get, Option, Some, None, is_some, is_none, Ok, Err}
use Rattle.std.specs.Option.{option_map, option_or, option_and_then}
use Rattle.dh_base.specs.declared.id.Id.{Id}
use Rattle.dh_base.specs.declared.outcome.Outcome.{Outcome}
use Rattle.dh_base.specs.declared.outcome.Outcome.TheVariants.{Commit, Abort}
use Rattle.dh_base.specs.Ids.{same_id}
use Rattle.act_text.specs.declared.statement.Statement.{Statement}
use Rattle.deal_core.specs.Deals.{DealTold, index_of_account}
use Rattle.deal_core.specs.Kept.{is_on}
use Rattle.deal_core.specs.Reading.{IsTextOf, IsFaultOf}
use Rattle.deal_core.specs.declared.deal_fault.DealFault.{DealFault}
use Rattle.deal_core.specs.declared.deal_fault.DealFault.TheVariants as deal
use Rattle.clear_core.specs.Clearing.{turns_of}
use Rattle.clear_core.specs.Pairs.{pairs_of}
use Rattle.clear_core.specs.TermsKept.{ChecksTerms}
use Rattle.clear_core.specs.declared.pair.Pair.{Pair}
use Rattle.clear_core.specs.declared.term_fault.TermFault.{TermFault}
use Rattle.clear_core.specs.declared.terms.Terms.{Terms}
use Rattle.keeper_core.specs.declared.store_fault.StoreFault.TheVariants as store
use Rattle.joined_deals.specs.declared.agent_fault.AgentFault.{AgentFault}
use Rattle.joined_deals.specs.declared.agent_fault.AgentFault.TheVariants as fault
use Rattle.joined_deals.specs.DealTexts.{JoinedTold, plan_texts, start_text, vote_text, texts_of}
use Rattle.joined_deals.specs.Signed.{is_signed, unsigned_in, issued_of, acts_open, has_voted}
use Rattle.joined_deals.specs.Heard.{kept_of, listed_of, is_settled_in}
use Rattle.joined_deals.specs.Validated.{due_in}
use Rattle.joined_deals.specs.Agents.{AgentTold, deal_joined, with_signed, with_statement}

-- ---- joining

-- what is looked at before the terms
abbrev pub early_refusal : AgentTold → DealTold → Option AgentFault
early_refusal agent deal =
    if not (same_id deal.house agent.house) then Some (fault.OtherHouse deal.house)
    else if is_some (deal_joined agent.joined deal.id) then Some fault.JoinedAlready
    else if is_none (index_of_account deal.parties agent.account) then Some fault.NotAParty
    else None

-- The text is that of a deal that is refused before its terms are looked at.
pub record IsEarlyFault (agent : AgentTold) (text : List ℕ) (refusal : AgentFault) : Type 0 where
  pub deal : DealTold
  pub read : IsTextOf deal text
  pub refused : early_refusal agent deal ≡ Some refusal

-- The text is that of a deal that the agent might join.
pub record IsOffered (agent : AgentTold) (text : List ℕ) (terms : Terms)
    (joined : JoinedTold) : Type 0 where
  pub read : IsTextOf joined.deal text
  pub free : early_refusal agent joined.deal ≡ None
  pub party : index_of_account joined.deal.parties agent.account ≡ Some joined.index
  pub deadline : joined.deadline ≡ terms.deadline

-- the deal breaks that limit of the terms
pub record BreaksTerms (agent : AgentTold) (text : List ℕ) (terms : Terms)
    (broken : TermFault) : Type 0 where
  pub joined : JoinedTold
  pub offered : IsOffered agent text terms joined
  pub checks : ChecksTerms joined.deal.steps joined.index terms (Err broken)

-- The terms are kept, and fewer keys are neither used nor held for other deals than this deal may
-- want.
pub record IsShort (agent : AgentTold) (text : List ℕ) (terms : Terms)
    (left needed : ℕ) : Type 0 where
  pub joined : JoinedTold
  pub offered : IsOffered agent text terms joined
  pub checks : ChecksTerms joined.deal.steps joined.index terms (Ok tt)
  pub left_is : left + (length agent.signed + unsigned_in agent.signed agent.joined) ≡ agent.size
  pub needed_is : needed ≡ length (texts_of joined)
  pub short : left < needed

-- the text is no deal's; that memory ran out is no fault of it
abbrev pub IsBadDeal : List ℕ → DealFault → Type 0
IsBadDeal text deal.NoMemory = ⊥
IsBadDeal text fault = IsFaultOf text fault

-- The keeper failed, or memory ran out.
abbrev pub IsStoreOnly : AgentFault → Type 0
IsStoreOnly (fault.Store store.Keeper) = Unit {0}
IsStoreOnly (fault.Store store.NoMemory) = Unit {0}
IsStoreOnly _ = ⊥

-- Why a deal is not joined, in the order in which that is looked at.
abbrev pub IsJoinFault : AgentTold → List ℕ → Terms → AgentFault → Type 0
IsJoinFault agent text terms (fault.BadDeal unread) = IsBadDeal text unread
IsJoinFault agent text terms (fault.OtherHouse named) =
    IsEarlyFault agent text (fault.OtherHouse named)
IsJoinFault agent text terms fault.JoinedAlready = IsEarlyFault agent text fault.JoinedAlready
IsJoinFault agent text terms fault.NotAParty = IsEarlyFault agent text fault.NotAParty
IsJoinFault agent text terms (fault.Terms broken) = BreaksTerms agent text terms broken
IsJoinFault agent text terms (fault.KeysShort left needed) = IsShort agent text terms left needed
IsJoinFault agent text terms refusal = IsStoreOnly refusal

-- The deal of the text may be joined: its terms are kept, and the keys suffice.
pub record IsJoinable (agent : AgentTold) (text : List ℕ) (terms : Terms)
    (joined : JoinedTold) : Type 0 where
  pub offered : IsOffered agent text terms joined
  pub checks : ChecksTerms joined.deal.steps joined.index terms (Ok tt)
  pub keys : length agent.signed + unsigned_in agent.signed agent.joined
      + length (texts_of joined) ≤ agent.size

-- ---- signing

-- a refusal by the joined deal, or that there is none
abbrev pub if_joined : Option JoinedTold → (JoinedTold → Option AgentFault) → Option AgentFault
if_joined None refusal = Some fault.NotJoined
if_joined (Some joined) refusal = refusal joined

abbrev pub refusal_in : AgentTold → Id → (JoinedTold → Option AgentFault) → Option AgentFault
refusal_in agent deal = if_joined (deal_joined agent.joined deal)

-- of `start` and `vote_abort`
abbrev pub unjoined : AgentTold → Id → Option AgentFault
unjoined agent deal = refusal_in agent deal (λ joined. None)

abbrev pub next_refusal : AgentTold → Id → Option AgentFault
next_refusal agent deal =
    refusal_in agent deal (λ joined.
    if has_voted agent.signed joined then Some fault.Voted else None)

abbrev pub again_refusal : AgentTold → Id → ℕ → Option AgentFault
again_refusal agent deal k =
    refusal_in agent deal (λ joined.
    if nat_lt k (issued_of agent.signed joined) then None
    else Some (fault.NotIssued (issued_of agent.signed joined)))

-- the first act of the plan that is not signed, if one isn't
abbrev pub next_text : AgentTold → JoinedTold → Option (List ℕ)
next_text agent joined = slice_get (plan_texts joined) (issued_of agent.signed joined)

-- ---- voting

-- what it lacks by an open statement
abbrev pub open_refusal : JoinedTold → Pair → Statement → Option AgentFault
open_refusal joined pair statement =
    if not (statement.moves == turns_of joined.deal.steps joined.index pair.ledger)
    then Some (fault.MovesOpen pair.ledger statement.moves
    (turns_of joined.deal.steps joined.index pair.ledger))
    else if nat_lt (listed_of statement.rows pair.asset) (due_in joined pair.ledger pair.asset)
    then Some (fault.NotValidated pair.ledger pair.asset (listed_of statement.rows pair.asset)
    (due_in joined pair.ledger pair.asset))
    else None

-- what the pair lacks by the statement that is kept of its ledger
abbrev pub pair_refusal : JoinedTold → Pair → Option Statement → Option AgentFault
pair_refusal joined pair None =
    Some (fault.NotValidated pair.ledger pair.asset 0 (due_in joined pair.ledger pair.asset))
pair_refusal joined pair (Some statement) =
    option_or (option_map (fault.Settled pair.ledger) statement.settled)
    (open_refusal joined pair statement)

-- the first refusal of the pairs, in their order
abbrev pub first_refusal : (Pair → Option AgentFault) → List Pair → Option AgentFault
first_refusal refusal [] = None
first_refusal refusal (pair ∷ pairs) = option_or (refusal pair) (first_refusal refusal pairs)

-- what the pair lacks, where something of it is due
abbrev pub owed_refusal : List Statement → JoinedTold → Pair → Option AgentFault
owed_refusal heard joined pair =
    if nat_lt 0 (due_in joined pair.ledger pair.asset)
    then pair_refusal joined pair (kept_of heard joined.deal.id pair.ledger) else None

-- What the kept statements lack: the first refusal of the deal's pairs, in ascending order. The
-- pairs of one ledger stand together, so the ledgers come in ascending order, and nothing is heard
-- of one at its least asset of which something is due.
abbrev pub unseen : List Statement → JoinedTold → Option AgentFault
unseen heard joined = first_refusal (owed_refusal heard joined) (pairs_of joined.deal.steps)

-- acts that are not signed come before what is not seen
abbrev pub invalid : AgentTold → JoinedTold → Option AgentFault
invalid agent joined =
    if nat_lt 0 (acts_open agent.signed joined)
    then Some (fault.ActsOpen (acts_open agent.signed joined))
    else unseen agent.heard joined

abbrev pub commit_refusal : AgentTold → Id → Option AgentFault
commit_refusal agent deal =
    refusal_in agent deal (λ joined.
    if is_signed agent.signed (vote_text joined Abort) then Some fault.AbortSigned
    else if is_signed agent.signed (vote_text joined Commit) then None
    else invalid agent joined)

-- The deadline is ahead, or a kept statement of the deal tells that it is settled.
abbrev pub is_waiting : AgentTold → JoinedTold → ℕ → Bool
is_waiting agent joined now =
    nat_lt now joined.deadline || is_settled_in agent.heard joined.deal.id

-- ---- what is signed

-- the agent once the text is signed; a text that was signed before changes nothing
abbrev pub with_text : AgentTold → List ℕ → AgentTold
with_text agent text = if is_signed agent.signed text then agent else with_signed agent text

abbrev pub signed_if : AgentTold → Option (List ℕ) → AgentTold
signed_if agent None = agent
signed_if agent (Some text) = with_text agent text

-- the text of the deal of that id, if it is joined
abbrev pub text_in : AgentTold → Id → (JoinedTold → Option (List ℕ)) → Option (List ℕ)
text_in agent deal text_of = option_and_then text_of (deal_joined agent.joined deal)

abbrev pub start_in : AgentTold → Id → Option (List ℕ)
start_in agent deal = text_in agent deal (λ joined. Some (start_text joined))

abbrev pub vote_in : AgentTold → Id → Outcome → Option (List ℕ)
vote_in agent deal choice = text_in agent deal (λ joined. Some (vote_text joined choice))

abbrev pub next_in : AgentTold → Id → Option (List ℕ)
next_in agent deal = text_in agent deal (next_text agent)

-- An abort is due once the deadline is reached, where the deal is not heard settled.
abbrev pub tick_in : AgentTold → Id → ℕ → Option (List ℕ)
tick_in agent deal now =
    text_in agent deal (λ joined.
    if is_waiting agent joined now then None else Some (vote_text joined Abort))

-- ---- hearing

abbrev pub hear_refusal : AgentTold → Statement → Option AgentFault
hear_refusal agent statement =
    if not (same_id statement.house agent.house) then Some (fault.OtherHouse statement.house)
    else refusal_in agent statement.deal (λ joined.
    if not (same_id statement.party agent.account) then Some (fault.NotMine statement.party)
    else if is_on joined.deal.steps statement.ledger then None
    else Some (fault.NotOfDeal statement.ledger))

-- how many entries are behind the kept statement, where they are more than behind this one
abbrev pub newer_than : Statement → Option Statement → Option ℕ
newer_than statement None = None
newer_than statement (Some kept) = if nat_lt statement.at kept.at then Some kept.at else None

abbrev pub newer_kept : AgentTold → Statement → Option ℕ
newer_kept agent statement =
    newer_than statement (kept_of agent.heard statement.deal statement.ledger)

-- the statement is kept, unless the kept one is newer
abbrev pub heard_if : AgentTold → Statement → Option ℕ → AgentTold
heard_if agent statement None = with_statement agent statement
heard_if agent statement (Some at) = agent
