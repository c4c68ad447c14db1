-- What a call of a node does by the state that its keeper's tables stand for. These words are the
-- same for every node: S is its state, A the answer of the call, and F its fault.
use Rattle.std.specs.Prelude.{◌≡◌, ◌⊎◌, if◌then◌else◌, List, [], ◌∷◌, Option, Some, None, is_some, IfSome, IsTrue, Result, Ok, Err, OnOk, OnErr}
use Rattle.keeper_core.specs.declared.change.Change.{Change}
use Rattle.keeper_core.specs.Tables.{Tables}
use Rattle.keeper_core.specs.Knowing.{Known}
use Rattle.keeper_core.specs.Leaving.{Ended, done, failed, starved, refused, Leaves}

-- this holds of the map before the call, where it was told, and the map is still told
abbrev pub WhereTold : Known → Known → (Tables → Type 0) → Type 0
WhereTold before after P = IfSome after.tables (λ _. IfSome before.tables P)

-- The call leaves what these batches leave, which the map before it determines.
pub record LeavesBy (batches_of : Tables → List (List Change)) (how : Ended)
    (before after : Known) : Type 0 where
  pub batches : List (List Change)
  pub made : WhereTold before after (λ tables. batches ≡ batches_of tables)
  pub leaves : Leaves batches how before after

abbrev pub AtMostOne : List (List Change) → Type 0
AtMostOne [] = Unit {0}
AtMostOne (batch ∷ []) = Unit {0}
AtMostOne (batch ∷ next ∷ batches) = ⊥

-- The fault is the refusal. A keeper's failure and want of memory may come in place of any answer.
abbrev pub IsRefusal : {F : Type 0} → Ended → Option F → F → Type 0
IsRefusal done refusal fault = ⊥
IsRefusal failed refusal fault = Unit {0}
IsRefusal starved refusal fault = Unit {0}
IsRefusal refused refusal fault = refusal ≡ Some fault

-- The call is answered so where there is no refusal, and else refused by it.
abbrev pub IsReply : {A F : Type 0} → (F → Ended) → Option F → (A → Type 0) → Result A F → Type 0
IsReply by_fault refusal IsAnswer (Ok answer) = (refusal ≡ None) × IsAnswer answer
IsReply by_fault refusal IsAnswer (Err fault) = IsRefusal (by_fault fault) refusal fault

-- the batches of the call, and none where it is refused
abbrev pub commits_unless : {F : Type 0} → (Tables → Option F) → (Tables → List (List Change)) →
    Tables → List (List Change)
commits_unless refusal_of batches_of tables =
    if is_some (refusal_of tables) then [] else batches_of tables

-- the tables that are told stand for the state
abbrev pub Backs : {S : Type 0} → (Tables → S → Type 0) → Option Tables → S → Type 0
Backs StandsFor told state = IfSome told (λ tables. StandsFor tables state)

-- The reply is that of the state, and the tables then stand for the next one, or after a fault
-- still for the state. Where the keeper stopped in the call, they stand for the one or the other.
pub record Steps {S A F : Type 0} (StandsFor : Tables → S → Type 0) (by_fault : F → Ended)
    (refusal : Option F) (IsAnswer : A → Type 0) (state next : S) (result : Result A F)
    (before after : Known) : Type 0 where
  pub reply : IfSome after.tables (λ _. IsReply by_fault refusal IsAnswer result)
  pub accepted : OnOk result (Backs StandsFor after.tables next)
  pub unchanged : OnErr result (after.stopped ≡ before.stopped → Backs StandsFor after.tables state)
  pub stopped : OnErr result (Backs StandsFor after.tables state
      ⊎ (IsTrue after.stopped × (refusal ≡ None) × Backs StandsFor after.tables next))
