-- What a call of an agent does, by how it ended.
use Rattle.std.proofs.Common.{◌≡◌, ◌⊎◌, Bool, true, false, if◌then◌else◌, List, [], ◌∷◌, Option, Some, None, is_some, IfSome, IsTrue, Result, Ok, Err, OnOk, OnErr, refl, sym, ap, subst, ◌∙◌, inl, inr}
use Rattle.dh_base.specs.declared.id.Id.{Id}
use Rattle.keeper_core.specs.declared.change.Change.{Change}
use Rattle.keeper_core.specs.declared.store_fault.StoreFault.{StoreFault}
use Rattle.keeper_core.specs.declared.store_fault.StoreFault.TheVariants as store
use Rattle.keeper_core.specs.Tables.{Tables}
use Rattle.keeper_core.specs.Knowing.{Known}
use Rattle.keeper_core.specs.Leaving.{Ended, done, failed, starved, refused, ended, of_store_fault, after_batches, Leaves}
use Rattle.keeper_core.specs.Stepping.{AtMostOne, IsRefusal, IsReply, Backs, Steps}
use Rattle.keeper_core.proofs.Leaving.{not_asked}
use Rattle.keeper_core.proofs.Stepping.{steps}
use Rattle.joined_deals.specs.declared.agent_fault.AgentFault.{AgentFault}
use Rattle.joined_deals.specs.declared.agent_fault.AgentFault.TheVariants as fault
use Rattle.joined_deals.specs.AgentFaults.{of_agent_fault}
use Rattle.joined_deals.specs.Agents.{AgentTold}
use Rattle.joined_deals.specs.AgentSteps.{AgentStep, stays}
use Rattle.joined_deals.specs.AgentCalls.{IsStoreOnly}
use Rattle.agent_core.specs.AgentSeen.{AgentSeen}
use Rattle.agent_core.specs.AgentTables.{IsState}
use Rattle.agent_core.specs.AgentDoes.{unless_refused, Does}

-- ---- faults

pub store_not_done : (f : StoreFault) → of_store_fault f ≡ done → ⊥
store_not_done store.Keeper e = absurd cc
store_not_done (store.BadRow tab key) e = absurd cc
store_not_done store.NoMemory e = absurd cc

pub not_done : (f : AgentFault) → of_agent_fault f ≡ done → ⊥
not_done fault.NotJoined e = absurd cc
not_done fault.JoinedAlready e = absurd cc
not_done (fault.BadDeal unread) e = absurd cc
not_done (fault.OtherHouse named) e = absurd cc
not_done fault.NotAParty e = absurd cc
not_done (fault.Terms broken) e = absurd cc
not_done (fault.KeysShort left needed) e = absurd cc
not_done fault.Voted e = absurd cc
not_done (fault.NotIssued issued) e = absurd cc
not_done fault.AbortSigned e = absurd cc
not_done (fault.ActsOpen left) e = absurd cc
not_done (fault.Settled ledger outcome) e = absurd cc
not_done (fault.NotValidated ledger asset seen due) e = absurd cc
not_done (fault.MovesOpen ledger seen own) e = absurd cc
not_done (fault.NotMine party) e = absurd cc
not_done (fault.NotOfDeal ledger) e = absurd cc
not_done (fault.Store f) e = store_not_done f e

-- a keeper's failure and want of memory may come in place of any answer
pub in_place : (refusal : Option AgentFault) (f : AgentFault) → IsStoreOnly f → IsRefusal (of_agent_fault f) refusal f
in_place refusal fault.NotJoined only = absurd only
in_place refusal fault.JoinedAlready only = absurd only
in_place refusal (fault.BadDeal unread) only = absurd only
in_place refusal (fault.OtherHouse named) only = absurd only
in_place refusal fault.NotAParty only = absurd only
in_place refusal (fault.Terms broken) only = absurd only
in_place refusal (fault.KeysShort left needed) only = absurd only
in_place refusal fault.Voted only = absurd only
in_place refusal (fault.NotIssued issued) only = absurd only
in_place refusal fault.AbortSigned only = absurd only
in_place refusal (fault.ActsOpen left) only = absurd only
in_place refusal (fault.Settled ledger outcome) only = absurd only
in_place refusal (fault.NotValidated ledger asset seen due) only = absurd only
in_place refusal (fault.MovesOpen ledger seen own) only = absurd only
in_place refusal (fault.NotMine party) only = absurd only
in_place refusal (fault.NotOfDeal ledger) only = absurd only
in_place refusal (fault.Store store.Keeper) only = tt
in_place refusal (fault.Store (store.BadRow tab key)) only = absurd only
in_place refusal (fault.Store store.NoMemory) only = tt

-- the fault is the refusal
pub refused_by : (refusal : Option AgentFault) (f : AgentFault) → refusal ≡ Some f → of_agent_fault f ≡ refused → IsRefusal (of_agent_fault f) refusal f
refused_by refusal f is ends = subst (λ (how : Ended). IsRefusal how refusal f) (sym ends) is

pub refused_not_failed : (how : Ended) → how ≡ refused → how ≡ failed → ⊥
refused_not_failed how is e = (let s : refused ≡ failed = sym is ∙ e in absurd cc)

-- ---- what is told

always : (P : Type 0) (before after : Option Tables) → P → IfSome after (λ _. IfSome before (λ _. P))
always P before None p = tt
always P None (Some later) p = tt
always P (Some tables) (Some later) p = p

if_told : (P : Type 0) (told : Option Tables) → P → IfSome told (λ _. P)
if_told P None p = tt
if_told P (Some tables) p = p

-- ---- the call

module _ {K A : Type 0} (refusal : Option AgentFault) (IsAnswer : A → Type 0) (next : AgentTold) (batches : List (List Change)) (old now : AgentSeen K) where
  -- by what it leaves
  pub does : (before after : Known) (few : AtMostOne batches) (onward : (tables : Tables) → IsState tables old.agent → refusal ≡ None → IsState (after_batches batches tables) next) (result : Result A AgentFault)
      → IsReply of_agent_fault refusal IsAnswer result → OnOk result (now ≡ record old { keeper = now.keeper; agent = next }) → OnErr result (now ≡ record old { keeper = now.keeper })
      → Leaves (unless_refused refusal batches) (ended of_agent_fault result) before after → Does refusal IsAnswer next batches old now result before after
  does before after few onward result reply moved unchanged leaves = record {
    reply = reply;
    moved = moved;
    unchanged = unchanged;
    leaves = leaves;
    stands = λ stands. steps IsState of_agent_fault (λ _. refusal) (λ _. batches) IsAnswer refusal old.agent next (λ _. few) (λ tables s. refl) onward result before after not_done
        (record { batches = unless_refused refusal batches; made = always (unless_refused refusal batches ≡ unless_refused refusal batches) before.tables after.tables refl; leaves = leaves })
        (always (IsReply of_agent_fault refusal IsAnswer result) before.tables after.tables reply) stands;
  }

  -- it ended before the keeper was asked
  pub unasked : (known : Known) (f : AgentFault) → IsRefusal (of_agent_fault f) refusal f → (of_agent_fault f ≡ failed → ⊥) → now ≡ record old { keeper = now.keeper } → Does refusal IsAnswer next batches old now (Err f) known known
  unasked known f reply unfailed same = record {
    reply = reply;
    moved = tt;
    unchanged = same;
    leaves = not_asked (of_agent_fault f) (unless_refused refusal batches) known unfailed (λ e. absurd (not_done f e));
    stands = λ stands. record { reply = if_told (IsRefusal (of_agent_fault f) refusal f) known.tables reply; accepted = tt; unchanged = λ e. stands; stopped = inl stands };
  }

  pub is_refused : (known : Known) (f : AgentFault) → refusal ≡ Some f → of_agent_fault f ≡ refused → now ≡ record old { keeper = now.keeper } → Does refusal IsAnswer next batches old now (Err f) known known
  is_refused known f is ends same = unasked known f (refused_by refusal f is ends) (refused_not_failed (of_agent_fault f) ends) same

  pub is_starved : (known : Known) (f : AgentFault) → f ≡ fault.Store store.NoMemory → now ≡ record old { keeper = now.keeper } → Does refusal IsAnswer next batches old now (Err f) known known
  is_starved known f is same =
      subst (λ (g : AgentFault). Does refusal IsAnswer next batches old now (Err g) known known) (sym is) (unasked known (fault.Store store.NoMemory) tt (λ e. absurd (let s : starved ≡ failed = e in cc)) same)

-- with nothing to commit
pub just_answers : {K A : Type 0} (refusal : Option AgentFault) (IsAnswer : A → Type 0) (old now : AgentSeen K) (known : Known) (answer : A) → refusal ≡ None → IsAnswer answer → now ≡ record old { keeper = now.keeper } → Does refusal IsAnswer old.agent [] old now (Ok answer) known known
just_answers refusal IsAnswer old now known answer free is same =
    does refusal IsAnswer old.agent [] old now known known tt (λ tables stands none. stands) (Ok answer) (free, is) same tt
    (not_asked done (unless_refused refusal []) known (λ e. absurd (let s : done ≡ failed = e in cc)) (λ _. none_at_all (is_some refusal)))
  where
    none_at_all : (b : Bool) → ◌≡◌ {A = List (List Change)} (if b then [] else []) []
    none_at_all true = refl
    none_at_all false = refl

-- ---- one call within another

module _ {K A B : Type 0} (refusal : Option AgentFault) (P : A → Type 0) (Q : B → Type 0) (next : AgentTold) (batches : List (List Change)) (old now : AgentSeen K) (before after : Known) where
  on_told : (told : Option Tables) (X Y : Type 0) → (X → Y) → IfSome told (λ _. X) → IfSome told (λ _. Y)
  on_told None X Y f x = tt
  on_told (Some tables) X Y f x = f x

  -- its answer is made of the other's
  pub answers_by : (x : A) (y : B) → (P x → Q y) → Does refusal P next batches old now (Ok x) before after → Does refusal Q next batches old now (Ok y) before after
  answers_by x y f d = record {
    reply = (d.reply.0, f d.reply.1);
    moved = d.moved;
    unchanged = tt;
    leaves = d.leaves;
    stands = λ stands. (let s = d.stands stands in record {
      reply = on_told after.tables (IsReply of_agent_fault refusal P (Ok x)) (IsReply of_agent_fault refusal Q (Ok y)) (λ r. (r.0, f r.1)) s.reply;
      accepted = s.accepted;
      unchanged = tt;
      stopped = tt;
    });
  }

  -- its fault is the other's
  pub fails_by : (f : AgentFault) → Does refusal P next batches old now (Err f) before after → Does refusal Q next batches old now (Err f) before after
  fails_by f d = record {
    reply = d.reply;
    moved = tt;
    unchanged = d.unchanged;
    leaves = d.leaves;
    stands = λ stands. (let s = d.stands stands in record { reply = s.reply; accepted = tt; unchanged = s.unchanged; stopped = s.stopped });
  }

-- ---- the agent's step

pub step_of : {K A : Type 0} (refusal : Option AgentFault) (P : A → Type 0) (next : AgentTold) (batches : List (List Change)) (old now : AgentSeen K) (result : Result A AgentFault) (before after : Known)
    → Does refusal P next batches old now result before after → (refusal ≡ None → AgentStep old.agent next) → AgentStep old.agent now.agent
step_of refusal P next batches old now (Ok x) before after d step = subst (λ (a : AgentTold). AgentStep old.agent a) (sym (ap (λ (s : AgentSeen _). s.agent) d.moved)) (step d.reply.0)
step_of refusal P next batches old now (Err f) before after d step = stays (ap (λ (s : AgentSeen _). s.agent) d.unchanged)
