-- A call that replies by its rows replies by the state that they stand for, whatever the node.
use Rattle.std.proofs.Common.{◌≡◌, ◌⊎◌, Bool, true, false, if◌then◌else◌, List, [], ◌∷◌, Option, Some, None, IfSome, IsSome, IsTrue, Result, Ok, Err, OnOk, OnErr, refl, sym, ap, subst, ◌∙◌, inl, inr}
use Rattle.std.specs.Option.{option_map, is_some}
use Rattle.keeper_core.specs.declared.change.Change.{Change}
use Rattle.keeper_core.specs.Tables.{Tables}
use Rattle.keeper_core.specs.Knowing.{Known}
use Rattle.keeper_core.specs.Leaving.{Ended, done, failed, starved, refused, ended, after_batches, KeepsTold, Applies, AppliesFront, Halts, Leaves}
use Rattle.keeper_core.specs.Stepping.{WhereTold, LeavesBy, IsRefusal, IsReply, AtMostOne, commits_unless, Backs, Steps}
use Rattle.keeper_core.proofs.Leaving.{told_map, is_told, not_told, none_or_whole, none_made, false_not_true, then_any, look_ends, if_some}

-- ---- what is told after a call was told before

told_by : (batches : List (List Change)) (before after : Option Tables) → Applies before batches after → IfSome after (λ _. IsSome before)
told_by batches before None applies = tt
told_by batches None (Some later) applies = absurd (not_told later applies)
told_by batches (Some tables) (Some later) applies = refl

told_front : (halts : Type 0) (batches : List (List Change)) (before after : Option Tables) → AppliesFront halts before batches after → IfSome after (λ _. IsSome before)
told_front halts batches before after front = told_by front.made before after front.applies

told_same : (before after : Option Tables) → KeepsTold before after → IfSome after (λ _. IsSome before)
told_same before None keeps = tt
told_same None (Some later) keeps = absurd (not_told later keeps)
told_same (Some tables) (Some later) keeps = refl

pub was_told : (batches : List (List Change)) (how : Ended) (before after : Known) → Leaves batches how before after → IfSome after.tables (λ _. IsSome before.tables)
was_told batches done before after l = told_by batches before.tables after.tables l.applies
was_told batches failed before after l = told_front (Halts before after) batches before.tables after.tables l.front
was_told batches starved before after l = told_front ⊥ batches before.tables after.tables l.front
was_told batches refused before after l = told_same before.tables after.tables l.unchanged

-- what holds where the map is told at some moment holds where it is told later
later_told : (X : Type 0) (mid after : Option Tables) → IfSome after (λ _. IsSome mid) → IfSome mid (λ _. X) → IfSome after (λ _. X)
later_told X mid None told holds = tt
later_told X None (Some later) told holds = absurd cc
later_told X (Some tables) (Some later) told holds = holds

-- ---- what a call leaves by the map before it

module _ (batches_of : Tables → List (List Change)) where
  batches_told : Option Tables → List (List Change)
  batches_told None = []
  batches_told (Some tables) = batches_of tables

  are_told : (before after : Option Tables) → IfSome after (λ _. IfSome before (λ tables. batches_told before ≡ batches_of tables))
  unfolding batches_told
  are_told before None = tt
  are_told None (Some later) = tt
  are_told (Some tables) (Some later) = refl

  -- A call that ended at what it read, or is refused, leaves what it leaves, whatever it was to commit.
  pub reads_leave : (how : Ended) (before after : Known) → (how ≡ done → ⊥) → Leaves [] how before after → LeavesBy batches_of how before after
  reads_leave how before after not_done l = record {
    batches = batches_told before.tables;
    made = are_told before.tables after.tables;
    leaves = look_ends (batches_told before.tables) how before after not_done l;
  }

  -- A call that reads, and then makes batches of what it has read.
  pub call_leaves : (batches : List (List Change)) (how : Ended) (before mid after : Known) → Leaves [] done before mid → Leaves batches how mid after → WhereTold before mid (λ tables. batches ≡ batches_of tables) → LeavesBy batches_of how before after
  call_leaves batches how before mid after read l is = record {
    batches = batches;
    made = later_told (IfSome before.tables (λ tables. batches ≡ batches_of tables)) mid.tables after.tables (was_told batches how mid after l) is;
    leaves = then_any batches how before mid after read l;
  }

-- ---- at most one batch

-- none of it is made, or all of it where the keeper stopped
pub unmoved_or_stopped : (batches : List (List Change)) (how : Ended) (before after : Known) → (how ≡ done → ⊥) → AtMostOne batches → Leaves batches how before after → KeepsTold before.tables after.tables ⊎ (Halts before after × Applies before.tables batches after.tables)
unmoved_or_stopped batches done before after not_done few l = absurd (not_done refl)
unmoved_or_stopped [] failed before after not_done few l = inl (none_made (Halts before after) before.tables after.tables l.front)
unmoved_or_stopped (batch ∷ []) failed before after not_done few l = none_or_whole (Halts before after) before.tables after.tables batch l.front
unmoved_or_stopped (batch ∷ next ∷ batches) failed before after not_done few l = absurd few
unmoved_or_stopped [] starved before after not_done few l = inl (none_made ⊥ before.tables after.tables l.front)
unmoved_or_stopped (batch ∷ []) starved before after not_done few l = elim (none_or_whole ⊥ before.tables after.tables batch l.front) [
  | inl same ↦ inl same
  | inr (never, made) ↦ absurd never
]
unmoved_or_stopped (batch ∷ next ∷ batches) starved before after not_done few l = absurd few
unmoved_or_stopped batches refused before after not_done few l = inl l.unchanged

-- ---- the step

module _ {S A F : Type 0} (StandsFor : Tables → S → Type 0) (by_fault : F → Ended) (refusal_of : Tables → Option F) (batches_of : Tables → List (List Change)) (IsAnswer : A → Type 0) (refusal : Option F) (state next : S)
    (few : (tables : Tables) → AtMostOne (batches_of tables))
    (agrees : (tables : Tables) → StandsFor tables state → refusal_of tables ≡ refusal)
    (onward : (tables : Tables) → StandsFor tables state → refusal_of tables ≡ None → StandsFor (after_batches (batches_of tables) tables) next) where
  abbrev commits : Tables → List (List Change)
  commits = commits_unless refusal_of batches_of

  abbrev chosen : Tables → Option F → List (List Change)
  chosen tables found = if is_some found then [] else batches_of tables

  few_commits : (tables : Tables) → AtMostOne (commits tables)
  few_commits tables = go (refusal_of tables)
    where
      go : (found : Option F) → AtMostOne (chosen tables found)
      go None = few tables
      go (Some fault) = tt

  -- what the batches leave where all are made
  behind : (tables later : Tables) → StandsFor tables state → later ≡ after_batches (commits tables) tables → StandsFor later state ⊎ ((refusal ≡ None) × StandsFor later next)
  behind tables later stands is = go (refusal_of tables) refl
    where
      go : (found : Option F) → refusal_of tables ≡ found → StandsFor later state ⊎ ((refusal ≡ None) × StandsFor later next)
      go None none = inr (sym (agrees tables stands) ∙ none, subst (λ (t : Tables). StandsFor t next) (sym (is ∙ ap (λ (o : Option F). after_batches (chosen tables o) tables) none)) (onward tables stands none))
      go (Some fault) some = inl (subst (λ (t : Tables). StandsFor t state) (sym (is ∙ ap (λ (o : Option F). after_batches (chosen tables o) tables) some)) stands)

  replied : (result : Result A F) (before after : Option Tables) → IfSome after (λ _. IsSome before) → IfSome after (λ _. IfSome before (λ tables. IsReply by_fault (refusal_of tables) IsAnswer result)) → Backs StandsFor before state → IfSome after (λ _. IsReply by_fault refusal IsAnswer result)
  replied result before None told is stands = tt
  replied result None (Some later) told is stands = absurd cc
  replied result (Some tables) (Some later) told is stands = subst (λ (found : Option F). IsReply by_fault found IsAnswer result) (agrees tables stands) is

  moved : (batches : List (List Change)) (answer : A) (before after : Option Tables) → Applies before batches after → IfSome after (λ _. IfSome before (λ tables. batches ≡ commits tables)) → IfSome after (λ _. IfSome before (λ tables. IsReply by_fault (refusal_of tables) IsAnswer (Ok answer))) → Backs StandsFor before state → Backs StandsFor after next
  moved batches answer before None applies made is stands = tt
  moved batches answer None (Some later) applies made is stands = absurd (not_told later applies)
  moved batches answer (Some tables) (Some later) applies made is stands =
      let all : later ≡ after_batches batches tables = is_told later (after_batches batches tables) applies in
      let chosen_is : batches ≡ batches_of tables = made ∙ ap (chosen tables) is.0 in
      subst (λ (t : Tables). StandsFor t next) (sym (all ∙ ap (λ (bs : List (List Change)). after_batches bs tables) chosen_is)) (onward tables stands is.0)

  same_state : (before after : Option Tables) → KeepsTold before after → Backs StandsFor before state → Backs StandsFor after state
  same_state before None keeps stands = tt
  same_state None (Some later) keeps stands = absurd (not_told later keeps)
  same_state (Some tables) (Some later) keeps stands = subst (λ (t : Tables). StandsFor t state) (sym (is_told later tables keeps)) stands

  either : (batches : List (List Change)) (before after : Option Tables) → Applies before batches after → IfSome after (λ _. IfSome before (λ tables. batches ≡ commits tables)) → Backs StandsFor before state → Backs StandsFor after state ⊎ ((refusal ≡ None) × Backs StandsFor after next)
  either batches before None applies made stands = inl tt
  either batches None (Some later) applies made stands = absurd (not_told later applies)
  either batches (Some tables) (Some later) applies made stands =
      behind tables later stands (is_told later (after_batches batches tables) applies ∙ ap (λ (bs : List (List Change)). after_batches bs tables) made)

  few_told : (batches : List (List Change)) (before after : Option Tables) → IfSome after (λ _. IsSome before) → IfSome after (λ _. IfSome before (λ tables. batches ≡ commits tables)) → IfSome after (λ _. AtMostOne batches)
  few_told batches before None told made = tt
  few_told batches None (Some later) told made = absurd cc
  few_told batches (Some tables) (Some later) told made = subst AtMostOne (sym made) (few_commits tables)

  module _ (halts : Type 0) (batches : List (List Change)) where
    abbrev Outcome : Option Tables → Option Tables → Type 0
    Outcome before after = KeepsTold before after ⊎ (halts × Applies before batches after)

    kept_state : (before after : Option Tables) → (halts → ⊥) → IfSome after (λ _. Outcome before after) → Backs StandsFor before state → Backs StandsFor after state
    kept_state before None runs outcome stands = tt
    kept_state before (Some later) runs outcome stands = elim outcome [
      | inl keeps ↦ same_state before (Some later) keeps stands
      | inr (halted, applies) ↦ absurd (runs halted)
    ]

    stopped_state : (before after : Option Tables) → IfSome after (λ _. Outcome before after) → IfSome after (λ _. IfSome before (λ tables. batches ≡ commits tables)) → Backs StandsFor before state → Backs StandsFor after state ⊎ (halts × (refusal ≡ None) × Backs StandsFor after next)
    stopped_state before None outcome made stands = inl tt
    stopped_state before (Some later) outcome made stands = elim outcome [
      | inl keeps ↦ inl (same_state before (Some later) keeps stands)
      | inr (halted, applies) ↦ elim (either batches before (Some later) applies made stands) [
        | inl same ↦ inl same
        | inr (none, backs) ↦ inr (halted, none, backs)
      ]
    ]

  -- For every call that reads rows, decides by them, and commits one batch or none.
  pub steps : (result : Result A F) (before after : Known) → ((fault : F) → by_fault fault ≡ done → ⊥) → LeavesBy commits (ended by_fault result) before after → WhereTold before after (λ tables. IsReply by_fault (refusal_of tables) IsAnswer result) → Backs StandsFor before.tables state → Steps StandsFor by_fault refusal IsAnswer state next result before after
  steps (Ok answer) before after ends l is stands = record {
    reply = replied (Ok answer) before.tables after.tables (was_told l.batches done before after l.leaves) is stands;
    accepted = moved l.batches answer before.tables after.tables l.leaves.applies l.made is stands;
    unchanged = tt;
    stopped = tt;
  }
  steps (Err fault) before after ends l is stands =
      let told = was_told l.batches (by_fault fault) before after l.leaves in
      let outcome : IfSome after.tables (λ _. Outcome (Halts before after) l.batches before.tables after.tables) =
      if_some after.tables (λ _. AtMostOne l.batches) (λ _. Outcome (Halts before after) l.batches before.tables after.tables)
      (λ _ few. unmoved_or_stopped l.batches (by_fault fault) before after (ends fault) few l.leaves)
      (few_told l.batches before.tables after.tables told l.made) in
      record {
        reply = replied (Err fault) before.tables after.tables told is stands;
        accepted = tt;
        unchanged = λ same. kept_state (Halts before after) l.batches before.tables after.tables (λ halted. false_not_true before.stopped halted.0 (sym same ∙ halted.1)) outcome stands;
        stopped = elim (stopped_state (Halts before after) l.batches before.tables after.tables outcome l.made stands) [
          | inl backs ↦ inl backs
          | inr (halted, none, backs) ↦ inr (halted.1, none, backs)
        ];
      }
