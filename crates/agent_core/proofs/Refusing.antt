-- What an agent refuses by what it has in memory is neither a keeper's failure nor want of memory.
use Rattle.std.proofs.Common.{◌≡◌, ℕ, Bool, true, false, not, ◌==◌, nat_lt, if◌then◌else◌, List, [], ◌∷◌, Option, Some, None, refl, sym, ap, ◌∙◌}
use Rattle.std.specs.Option.{option_map, option_or}
use Rattle.dh_base.specs.declared.id.Id.{Id}
use Rattle.dh_base.specs.declared.outcome.Outcome.{Outcome}
use Rattle.dh_base.specs.declared.outcome.Outcome.TheVariants.{Commit, Abort}
use Rattle.dh_base.specs.Ids.{same_id}
use Rattle.act_text.specs.declared.statement.Statement.{Statement}
use Rattle.clear_core.specs.Clearing.{turns_of}
use Rattle.clear_core.specs.Pairs.{pairs_of}
use Rattle.clear_core.specs.declared.pair.Pair.{Pair}
use Rattle.deal_core.specs.Kept.{is_on}
use Rattle.keeper_core.specs.Leaving.{Ended, refused}
use Rattle.joined_deals.specs.DealTexts.{JoinedTold, vote_text}
use Rattle.joined_deals.specs.declared.agent_fault.AgentFault.{AgentFault}
use Rattle.joined_deals.specs.declared.agent_fault.AgentFault.TheVariants as fault
use Rattle.joined_deals.specs.AgentFaults.{of_agent_fault}
use Rattle.joined_deals.specs.Heard.{kept_of, listed_of}
use Rattle.joined_deals.specs.Signed.{is_signed, issued_of, acts_open, has_voted}
use Rattle.joined_deals.specs.Validated.{due_in}
use Rattle.joined_deals.specs.Agents.{AgentTold, deal_joined}
use Rattle.joined_deals.specs.AgentCalls.{if_joined, next_refusal, again_refusal, open_refusal, pair_refusal, first_refusal, owed_refusal, unseen, invalid, commit_refusal, hear_refusal}

abbrev pub IsOwn : AgentFault → Type 0
IsOwn f = of_agent_fault f ≡ refused

is_own : (g f : AgentFault) → IsOwn g → Some g ≡ Some f → IsOwn f
is_own g f own e = (let same : g ≡ f = cc in sym (ap of_agent_fault same) ∙ own)

none_own : (f : AgentFault) → None ≡ Some f → IsOwn f
none_own f e = absurd cc

if_own : (b : Bool) (g f : AgentFault) (rest : Option AgentFault) → IsOwn g → (rest ≡ Some f → IsOwn f) → (if b then Some g else rest) ≡ Some f → IsOwn f
if_own true g f rest own more e = is_own g f own e
if_own false g f rest own more e = more e

unless_own : (b : Bool) (f : AgentFault) (rest : Option AgentFault) → (rest ≡ Some f → IsOwn f) → (if b then None else rest) ≡ Some f → IsOwn f
unless_own true f rest more e = none_own f e
unless_own false f rest more e = more e

only_own : (b : Bool) (f : AgentFault) (rest : Option AgentFault) → (rest ≡ Some f → IsOwn f) → (if b then rest else None) ≡ Some f → IsOwn f
only_own true f rest more e = more e
only_own false f rest more e = none_own f e

joined_own : (o : Option JoinedTold) (refusal : JoinedTold → Option AgentFault) (f : AgentFault) → ((joined : JoinedTold) → refusal joined ≡ Some f → IsOwn f) → if_joined o refusal ≡ Some f → IsOwn f
joined_own None refusal f own e = is_own fault.NotJoined f refl e
joined_own (Some joined) refusal f own e = own joined e

pub next_own : (agent : AgentTold) (deal : Id) (f : AgentFault) → next_refusal agent deal ≡ Some f → IsOwn f
next_own agent deal f e =
    joined_own (deal_joined agent.joined deal) (λ joined. if has_voted agent.signed joined then Some fault.Voted else None) f
    (λ joined is. if_own (has_voted agent.signed joined) fault.Voted f None refl (none_own f) is) e

pub again_own : (agent : AgentTold) (deal : Id) (k : ℕ) (f : AgentFault) → again_refusal agent deal k ≡ Some f → IsOwn f
again_own agent deal k f e =
    joined_own (deal_joined agent.joined deal) (λ joined. if nat_lt k (issued_of agent.signed joined) then None else Some (fault.NotIssued (issued_of agent.signed joined))) f
    (λ joined is. unless_own (nat_lt k (issued_of agent.signed joined)) f (Some (fault.NotIssued (issued_of agent.signed joined))) (is_own (fault.NotIssued (issued_of agent.signed joined)) f refl) is) e

-- ---- commits

module _ (heard : List Statement) (joined : JoinedTold) (f : AgentFault) where
  open_own : (pair : Pair) (statement : Statement) → open_refusal joined pair statement ≡ Some f → IsOwn f
  open_own pair statement e =
      if_own (not (statement.moves == turns_of joined.deal.steps joined.index pair.ledger)) (fault.MovesOpen pair.ledger statement.moves (turns_of joined.deal.steps joined.index pair.ledger)) f
      (if nat_lt (listed_of statement.rows pair.asset) (due_in joined pair.ledger pair.asset) then Some (fault.NotValidated pair.ledger pair.asset (listed_of statement.rows pair.asset) (due_in joined pair.ledger pair.asset)) else None) refl
      (λ is. if_own (nat_lt (listed_of statement.rows pair.asset) (due_in joined pair.ledger pair.asset)) (fault.NotValidated pair.ledger pair.asset (listed_of statement.rows pair.asset) (due_in joined pair.ledger pair.asset)) f None refl (none_own f) is) e

  settled_own : (ledger : List ℕ) (settled : Option Outcome) (rest : Option AgentFault) → (rest ≡ Some f → IsOwn f) → option_or (option_map (fault.Settled ledger) settled) rest ≡ Some f → IsOwn f
  settled_own ledger None rest more e = more e
  settled_own ledger (Some outcome) rest more e = is_own (fault.Settled ledger outcome) f refl e

  pair_own : (pair : Pair) (o : Option Statement) → pair_refusal joined pair o ≡ Some f → IsOwn f
  pair_own pair None e = is_own (fault.NotValidated pair.ledger pair.asset 0 (due_in joined pair.ledger pair.asset)) f refl e
  pair_own pair (Some statement) e = settled_own pair.ledger statement.settled (open_refusal joined pair statement) (open_own pair statement) e

  owed_own : (pair : Pair) → owed_refusal heard joined pair ≡ Some f → IsOwn f
  owed_own pair e = only_own (nat_lt 0 (due_in joined pair.ledger pair.asset)) f (pair_refusal joined pair (kept_of heard joined.deal.id pair.ledger)) (pair_own pair (kept_of heard joined.deal.id pair.ledger)) e

  first_own : (pairs : List Pair) → first_refusal (owed_refusal heard joined) pairs ≡ Some f → IsOwn f
  first_own [] e = none_own f e
  first_own (pair ∷ pairs) e = go (owed_refusal heard joined pair) (owed_own pair) (first_own pairs) e
    where
      go : (o : Option AgentFault) → (o ≡ Some f → IsOwn f) → (first_refusal (owed_refusal heard joined) pairs ≡ Some f → IsOwn f) → option_or o (first_refusal (owed_refusal heard joined) pairs) ≡ Some f → IsOwn f
      go None own rest s = rest s
      go (Some g) own rest s = own s

  pub unseen_own : unseen heard joined ≡ Some f → IsOwn f
  unseen_own e = first_own (pairs_of joined.deal.steps) e

pub commit_own : (agent : AgentTold) (deal : Id) (f : AgentFault) → commit_refusal agent deal ≡ Some f → IsOwn f
commit_own agent deal f e =
    joined_own (deal_joined agent.joined deal) (λ joined. if is_signed agent.signed (vote_text joined Abort) then Some fault.AbortSigned else if is_signed agent.signed (vote_text joined Commit) then None else invalid agent joined) f
    (λ joined is. if_own (is_signed agent.signed (vote_text joined Abort)) fault.AbortSigned f (if is_signed agent.signed (vote_text joined Commit) then None else invalid agent joined) refl
    (λ more. unless_own (is_signed agent.signed (vote_text joined Commit)) f (invalid agent joined)
    (λ bad. if_own (nat_lt 0 (acts_open agent.signed joined)) (fault.ActsOpen (acts_open agent.signed joined)) f (unseen agent.heard joined) refl (unseen_own agent.heard joined f) bad) more) is) e

-- ---- statements

abbrev of_party : AgentTold → Statement → JoinedTold → Option AgentFault
of_party agent statement joined = if not (same_id statement.party agent.account) then Some (fault.NotMine statement.party) else if is_on joined.deal.steps statement.ledger then None else Some (fault.NotOfDeal statement.ledger)

party_own : (agent : AgentTold) (statement : Statement) (f : AgentFault) (joined : JoinedTold) → of_party agent statement joined ≡ Some f → IsOwn f
party_own agent statement f joined e =
    if_own (not (same_id statement.party agent.account)) (fault.NotMine statement.party) f (if is_on joined.deal.steps statement.ledger then None else Some (fault.NotOfDeal statement.ledger)) refl
    (λ on. unless_own (is_on joined.deal.steps statement.ledger) f (Some (fault.NotOfDeal statement.ledger)) (is_own (fault.NotOfDeal statement.ledger) f refl) on) e

pub hear_own : (agent : AgentTold) (statement : Statement) (f : AgentFault) → hear_refusal agent statement ≡ Some f → IsOwn f
hear_own agent statement f e =
    if_own (not (same_id statement.house agent.house)) (fault.OtherHouse statement.house) f (if_joined (deal_joined agent.joined statement.deal) (of_party agent statement)) refl
    (λ more. joined_own (deal_joined agent.joined statement.deal) (of_party agent statement) f (party_own agent statement f) more) e
