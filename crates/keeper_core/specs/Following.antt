-- Calls over a keeper, one after another, and what is told of calls to come.
use Rattle.std.specs.Prelude.{◌≡◌, List, [], ◌∷◌, ◌++◌, Result}
use Rattle.keeper_core.specs.declared.change.Change.{Change}
use Rattle.keeper_core.specs.declared.keep_fault.KeepFault.{KeepFault}
use Rattle.keeper_core.specs.Knowing.{Known, IsUnarmed}
use Rattle.keeper_core.specs.Leaving.{Ended, done, failed, refused, ended, of_keep_fault, Leaves}

-- A commit after a call that made batches is a call with these and the new one.
abbrev pub CommitsFollow : Type 0
CommitsFollow = (batches : List (List Change)) (batch : List Change)
    (answer : Result (Unit {0}) KeepFault) (before mid after : Known) →
    Leaves batches done before mid → Leaves (batch ∷ []) (ended of_keep_fault answer) mid after →
    Leaves (batches ++ batch ∷ []) (ended of_keep_fault answer) before after

-- A call that commits, after one that made batches, is a call with all of them.
abbrev pub CallsFollow : Type 0
CallsFollow = (first : List (List Change)) (batch : List Change) (rest : List (List Change))
    (how : Ended) (before mid after : Known) → (how ≡ refused → ⊥) → Leaves first done before mid →
    Leaves (batch ∷ rest) how mid after → Leaves (first ++ batch ∷ rest) how before after

-- What is read after a call leaves what the call left.
abbrev pub ReadsFollow : Type 0
ReadsFollow = (batches : List (List Change)) (before mid after : Known) →
    Leaves batches done before mid → Leaves [] done mid after → Leaves batches done before after

-- What is read behind the last commit of a call leaves what a batch of no changes there would.
abbrev pub ReadsBehind : Type 0
ReadsBehind = (batch : List Change) (batches : List (List Change)) (how : Ended)
    (before mid after : Known) →
    (how ≡ refused → ⊥) → Leaves (batch ∷ batches) done before mid → Leaves [] how mid after →
    Leaves (batch ∷ batches ++ [] ∷ []) how before after

-- A call that is refused leaves what it leaves, whatever it was to commit besides.
abbrev pub EndsEarly : Type 0
EndsEarly = (batches more : List (List Change)) (how : Ended) (before after : Known) →
    (how ≡ done → ⊥) → Leaves batches how before after → Leaves (batches ++ more) how before after

-- A keeper that runs, and is told that nothing is to come, fails no call.
abbrev pub UnarmedNeverFails : Type 0
UnarmedNeverFails = (batches : List (List Change)) (before after : Known) → IsUnarmed before →
    Leaves batches failed before after → ⊥

-- It stays so.
abbrev pub UnarmedStays : Type 0
UnarmedStays = (batches : List (List Change)) (how : Ended) (before after : Known) →
    IsUnarmed before → Leaves batches how before after → IsUnarmed after
