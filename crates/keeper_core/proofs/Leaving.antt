-- What calls over a keeper leave, one after another; and what a keeper in memory leaves.
use Rattle.std.proofs.Common.{◌≡◌, ℕ, ◌<◌, ◌≤◌, ◌+◌, ◌-◌, ◌^◌, Bool, true, false, List, [], ◌∷◌, ◌++◌, Option, Some, None, IfSome, ◌⊎◌, inl, inr, Result, Ok, Err, refl, sym, ap, subst, ◌∙◌, append_assoc, arith}
use Rattle.std.proofs.lemmas.List.{append-nil}
use Rattle.std.specs.Option.{option_map}
use Rattle.std.specs.Result.{IsErrAnd}
use Rattle.dh_base.specs.Faults.{HasRisen}
use Rattle.dh_base.specs.Calls.{one_more}
use Rattle.keeper_core.specs.declared.arm.Arm.{Arm}
use Rattle.keeper_core.specs.declared.arm.Arm.TheVariants.{FailNext, StopBefore, StopAfter}
use Rattle.keeper_core.specs.declared.change.Change.{Change}
use Rattle.keeper_core.specs.declared.keep_fault.KeepFault.{KeepFault}
use Rattle.keeper_core.specs.declared.keep_fault.KeepFault.TheVariants.{Failed, NoMemory}
use Rattle.keeper_core.specs.Tables.{Tables}
use Rattle.keeper_core.specs.Batches.{after_batch}
use Rattle.keeper_core.specs.Knowing.{Known, FailsNext, IsUnarmed}
use Rattle.keeper_core.specs.Memory.{KeeperTold, known_of, fails_next, is_fail_next, after_failure, after_begin, after_looks, stopped_with, stop_at_commit, failure_of_commit, after_commit}
use Rattle.keeper_core.specs.declared.store_fault.StoreFault.{StoreFault}
use Rattle.keeper_core.specs.StoreFaults.{store_fault_of}
use Rattle.keeper_core.specs.Leaving.{Ended, done, failed, starved, refused, ended, of_keep_fault, of_store_fault, after_batches, KeepsTold, Applies, AppliesFront, Halts, IsQuiet, RunsFor, StopsOnlyFor, IsDone, AppliesFirst, StopsAs, FailsBy, IsFailed, IsStarved, IsRefused, Leaves}

abbrev no_batches : List (List Change)
no_batches = []

-- ---- a keeper in memory

risen_more : (n : ℕ) → HasRisen n (one_more 64 n)
risen_more n = grind arith

count_more : (n : ℕ) → n ≤ one_more 64 n
count_more n = grind arith

-- a keeper that runs, and stops once all changes of a batch are made
pub stops_after : (k after : KeeperTold) (batch : List Change) (fault : KeepFault) → fault ≡ Failed → k.stopped ≡ false → k.armed ≡ Some StopAfter → after ≡ stopped_with (after_batch batch k.tables) k → Leaves (batch ∷ []) (of_keep_fault fault) (known_of k) (known_of after)
stops_after k after batch fault is_fault runs armed is =
    subst (λ (f : KeepFault). Leaves (batch ∷ []) (of_keep_fault f) (known_of k) (known_of after)) (sym is_fault)
    (subst (λ (a : KeeperTold). IsFailed (batch ∷ []) (known_of k) (known_of a)) (sym is) (record {
      front = record { made = batch ∷ []; left = []; parted = refl; applies = refl; short = λ _. inr (runs, refl) };
      risen = risen_more k.faults;
      count = count_more k.faults;
      stays = λ h. absurd cc;
      stops = tt;
      foretold = subst (λ (a : Option Arm). FailsBy a (batch ∷ []) (known_of k) (known_of (stopped_with (after_batch batch k.tables) k))) (sym armed) (λ _. (refl, refl, refl));
    }))

-- ---- maps

pub applies_same : (before after : Option Tables) → Applies before [] after → KeepsTold before after
applies_same before None applies = tt
applies_same None (Some later) applies = applies
applies_same (Some tables) (Some later) applies = applies

pub same_applies : (before after : Option Tables) → KeepsTold before after → Applies before [] after
same_applies before None unmoved = tt
same_applies None (Some later) unmoved = unmoved
same_applies (Some tables) (Some later) unmoved = unmoved

after_more : (first second : List (List Change)) (tables : Tables) → after_batches (first ++ second) tables ≡ after_batches second (after_batches first tables)
after_more [] second tables = refl
after_more (batch ∷ first) second tables = after_more first second (after_batch batch tables)

abbrev pub told_map : Tables → Option Tables
told_map tables = Some tables

pub is_told : (x y : Tables) → told_map x ≡ Some y → x ≡ y
is_told x y e = cc

pub not_told : (x : Tables) → told_map x ≡ None → ⊥
not_told x e = absurd cc

-- the one list of batches is made, and then the other
pub applies_on : (first second : List (List Change)) (before mid after : Option Tables) → Applies before first mid → Applies mid second after → Applies before (first ++ second) after
applies_on first second before mid None one two = tt
applies_on first second before None (Some later) one two = absurd (not_told later two)
applies_on first second None (Some between) (Some later) one two = absurd (not_told between one)
applies_on first second (Some tables) (Some between) (Some later) one two =
    ap Some (is_told later (after_batches second between) two ∙ ap (after_batches second) (is_told between (after_batches first tables) one) ∙ sym (after_more first second tables))

pub keeps_on : (before mid after : Option Tables) → KeepsTold before mid → KeepsTold mid after → KeepsTold before after
keeps_on before mid after one two = applies_same before after (applies_on [] [] before mid after (same_applies before mid one) (same_applies mid after two))

-- ---- one batch

two_batches : (batch first next : List Change) (made left : List (List Change)) → batch ∷ [] ≡ (first ∷ made) ++ (next ∷ left) → ⊥
two_batches batch first next [] left parted = absurd cc
two_batches batch first next (second ∷ made) left parted = absurd cc

-- none of a single batch is made, or all of it where the keeper stopped
pub none_or_whole : (halts : Type 0) (before after : Option Tables) (batch : List Change) → AppliesFront halts before (batch ∷ []) after → KeepsTold before after ⊎ (halts × Applies before (batch ∷ []) after)
none_or_whole halts before after batch front = by front.made front.left front.parted front.applies front.short
  where
    by : (made left : List (List Change)) → batch ∷ [] ≡ made ++ left → Applies before made after → (left ≡ [] → (batch ∷ [] ≡ []) ⊎ halts) → KeepsTold before after ⊎ (halts × Applies before (batch ∷ []) after)
    by [] left parted applies short = inl (applies_same before after applies)
    by (first ∷ made) [] parted applies short = elim (short refl) [
      | inl none ↦ absurd cc
      | inr halted ↦ inr (halted, subst (λ (bs : List (List Change)). Applies before bs after) (sym (append-nil (first ∷ made)) ∙ sym parted) applies)
    ]
    by (first ∷ made) (next ∷ left) parted applies short = absurd (two_batches batch first next made left parted)

-- where there is no batch, none is made
pub none_made : (halts : Type 0) (before after : Option Tables) → AppliesFront halts before [] after → KeepsTold before after
none_made halts before after front = by front.made front.left front.parted front.applies
  where
    by : (made left : List (List Change)) → [] ≡ made ++ left → Applies before made after → KeepsTold before after
    by [] left parted applies = applies_same before after applies
    by (first ∷ made) left parted applies = absurd cc

-- ---- what a call leaves that changed at most the map and the count of look-ups

pub quiet_stop : (before after : Known) → IsQuiet before after → after.stopped ≡ before.stopped
quiet_stop before after quiet = ap (λ (k : Known). k.stopped) quiet

pub quiet_faults : (before after : Known) → IsQuiet before after → after.faults ≡ before.faults
quiet_faults before after quiet = ap (λ (k : Known). k.faults) quiet

pub quiet_coming : (before after : Known) → IsQuiet before after → after.coming ≡ before.coming
quiet_coming before after quiet = ap (λ (k : Known). k.coming) quiet

pub quiet_on : (before mid after : Known) → IsQuiet before mid → IsQuiet mid after → IsQuiet before after
quiet_on before mid after one two = two ∙ ap (λ (k : Known). record k { tables = after.tables; looked = after.looked }) one

-- ---- a commit after a call

one_is_some : (batch : List Change) (rest : List (List Change)) → batch ∷ rest ≡ [] → ⊥
one_is_some batch rest none = absurd cc

front_on : (halts later : Type 0) (batches : List (List Change)) (batch : List Change) (rest : List (List Change)) (before mid after : Option Tables) → (later → halts) → Applies before batches mid → AppliesFront later mid (batch ∷ rest) after → AppliesFront halts before (batches ++ batch ∷ rest) after
front_on halts later batches batch rest before mid after halt one two = record {
  made = batches ++ two.made;
  left = two.left;
  parted = ap (λ (bs : List (List Change)). batches ++ bs) two.parted ∙ sym (append_assoc batches two.made two.left);
  applies = applies_on batches two.made before mid after one two.applies;
  short = λ none. elim (two.short none) [ inl e ↦ absurd (one_is_some batch rest e) | inr h ↦ inr (halt h) ];
}

runs_on : (batches : List (List Change)) (batch : List Change) (rest : List (List Change)) (before mid : Known) → IsQuiet before mid → RunsFor batches before → RunsFor (batch ∷ rest) mid → RunsFor (batches ++ batch ∷ rest) before
runs_on [] batch rest before mid quiet one two = (sym (quiet_stop before mid quiet) ∙ two.0, subst (λ (c : Option (Option Arm)). IfSome c (λ armed. armed ≡ None)) (quiet_coming before mid quiet) two.1)
runs_on (first ∷ batches) batch rest before mid quiet one two = one

done_on : (batches : List (List Change)) (batch : List Change) (rest : List (List Change)) (before mid after : Known) → IsDone batches before mid → IsDone (batch ∷ rest) mid after → IsDone (batches ++ batch ∷ rest) before after
done_on batches batch rest before mid after one two = record {
  applies = applies_on batches (batch ∷ rest) before.tables mid.tables after.tables one.applies two.applies;
  quiet = quiet_on before mid after one.quiet two.quiet;
  runs = runs_on batches batch rest before mid one.quiet one.runs two.runs;
}

starved_on : (batches : List (List Change)) (batch : List Change) (rest : List (List Change)) (before mid after : Known) → IsDone batches before mid → IsStarved (batch ∷ rest) mid after → IsStarved (batches ++ batch ∷ rest) before after
starved_on batches batch rest before mid after one two = record {
  front = front_on ⊥ ⊥ batches batch rest before.tables mid.tables after.tables (λ h. h) one.applies two.front;
  quiet = quiet_on before mid after one.quiet two.quiet;
}

pub false_not_true : (b : Bool) → b ≡ false → b ≡ true → ⊥
false_not_true b is_false is_true = absurd cc

stays_on : (batches : List (List Change)) (batch : List Change) (rest : List (List Change)) (before mid after : Known) → IsDone batches before mid → IsFailed (batch ∷ rest) mid after → before.stopped ≡ true → (after.stopped ≡ true) × KeepsTold before.tables after.tables
stays_on [] batch rest before mid after one two stopped =
    let stays = two.stays (quiet_stop before mid one.quiet ∙ stopped) in
    (stays.0, keeps_on before.tables mid.tables after.tables (applies_same before.tables mid.tables one.applies) stays.1)
stays_on (first ∷ batches) batch rest before mid after one two stopped = absurd (false_not_true before.stopped one.runs.0 stopped)

stops_on : (batches : List (List Change)) (batch : List Change) (rest : List (List Change)) (before after : Known) → StopsOnlyFor (batches ++ batch ∷ rest) before after
stops_on [] batch rest before after = tt
stops_on (first ∷ batches) batch rest before after = tt

-- the same is told of a failure after a call that made nothing
fails_from : (armed : Option Arm) (batch : List Change) (rest : List (List Change)) (before mid after : Known) → mid.stopped ≡ before.stopped → KeepsTold before.tables mid.tables → FailsBy armed (batch ∷ rest) mid after → FailsBy armed (batch ∷ rest) before after
fails_from None batch rest before mid after stop unmoved fails = (sym stop ∙ fails.0, fails.1)
fails_from (Some FailNext) batch rest before mid after stop unmoved fails = (fails.0 ∙ stop, fails.1, keeps_on before.tables mid.tables after.tables unmoved fails.2)
fails_from (Some StopBefore) batch rest before mid after stop unmoved fails = λ runs. (let f = fails (stop ∙ runs) in (f.0, f.1, keeps_on before.tables mid.tables after.tables unmoved f.2))
fails_from (Some StopAfter) batch rest before mid after stop unmoved fails = λ runs. (let f = fails (stop ∙ runs) in (f.0, f.1, applies_on [] (batch ∷ []) before.tables mid.tables after.tables (same_applies before.tables mid.tables unmoved) f.2))

foretold_on : (batches : List (List Change)) (batch : List Change) (rest : List (List Change)) (before mid after : Known) (coming : Option (Option Arm)) → mid.stopped ≡ before.stopped → Applies before.tables batches mid.tables → ((batches ≡ []) ⊎ ((before.stopped ≡ false) × IfSome coming (λ armed. armed ≡ None))) → IfSome coming (λ armed. FailsBy armed (batch ∷ rest) mid after) → IfSome coming (λ armed. FailsBy armed (batches ++ batch ∷ rest) before after)
foretold_on batches batch rest before mid after None stop one runs fails = tt
foretold_on [] batch rest before mid after (Some armed) stop one runs fails = fails_from armed batch rest before mid after stop (applies_same before.tables mid.tables one) fails
foretold_on (first ∷ batches) batch rest before mid after (Some armed) stop one (inl none) fails = absurd cc
foretold_on (first ∷ batches) batch rest before mid after (Some None) stop one (inr runs) fails = absurd (false_not_true mid.stopped (stop ∙ runs.0) fails.0)
foretold_on (first ∷ batches) batch rest before mid after (Some (Some arm)) stop one (inr runs) fails = (let e : Some arm ≡ None = runs.1 in absurd cc)

ready : (batches : List (List Change)) (known : Known) → RunsFor batches known → (batches ≡ []) ⊎ ((known.stopped ≡ false) × IfSome known.coming (λ armed. armed ≡ None))
ready [] known runs = inl refl
ready (first ∷ batches) known runs = inr runs

failed_on : (batches : List (List Change)) (batch : List Change) (rest : List (List Change)) (before mid after : Known) → IsDone batches before mid → IsFailed (batch ∷ rest) mid after → IsFailed (batches ++ batch ∷ rest) before after
failed_on batches batch rest before mid after one two =
    let stop = quiet_stop before mid one.quiet in
    let faults = quiet_faults before mid one.quiet in
    record {
      front = front_on (Halts before after) (Halts mid after) batches batch rest before.tables mid.tables after.tables (λ h. (sym stop ∙ h.0, h.1)) one.applies two.front;
      risen = subst (λ (n : ℕ). HasRisen n after.faults) faults two.risen;
      count = subst (λ (n : ℕ). n ≤ after.faults) faults two.count;
      stays = stays_on batches batch rest before mid after one two;
      stops = stops_on batches batch rest before after;
      foretold = foretold_on batches batch rest before mid after before.coming stop one.applies (ready batches before one.runs)
          (subst (λ (c : Option (Option Arm)). IfSome c (λ armed. FailsBy armed (batch ∷ rest) mid after)) (quiet_coming before mid one.quiet) two.foretold);
    }

-- A call that commits, after one that made batches.
pub then_call : (first : List (List Change)) (batch : List Change) (rest : List (List Change)) (how : Ended) (before mid after : Known) → (how ≡ refused → ⊥) → Leaves first done before mid → Leaves (batch ∷ rest) how mid after → Leaves (first ++ batch ∷ rest) how before after
then_call first batch rest done before mid after not_refused one two = done_on first batch rest before mid after one two
then_call first batch rest failed before mid after not_refused one two = failed_on first batch rest before mid after one two
then_call first batch rest starved before mid after not_refused one two = starved_on first batch rest before mid after one two
then_call first batch rest refused before mid after not_refused one two = absurd (not_refused refl)

answer_not_refused : {A : Type 0} (answer : Result A KeepFault) → ended of_keep_fault answer ≡ refused → ⊥
answer_not_refused (Ok x) e = absurd cc
answer_not_refused (Err Failed) e = absurd cc
answer_not_refused (Err NoMemory) e = absurd cc

-- A commit after a call that made batches is a call with these and the new one.
pub then_commit : {A : Type 0} (batches : List (List Change)) (batch : List Change) (answer : Result A KeepFault) (before mid after : Known) → Leaves batches done before mid → Leaves (batch ∷ []) (ended of_keep_fault answer) mid after → Leaves (batches ++ batch ∷ []) (ended of_keep_fault answer) before after
then_commit batches batch answer before mid after one two = then_call batches batch [] (ended of_keep_fault answer) before mid after (answer_not_refused answer) one two

-- ---- reading

-- what is read after a call leaves what the call left
pub then_read : (batches : List (List Change)) (before mid after : Known) → Leaves batches done before mid → Leaves [] done mid after → Leaves batches done before after
then_read batches before mid after one two = record {
  applies = subst (λ (bs : List (List Change)). Applies before.tables bs after.tables) (append-nil batches) (applies_on batches [] before.tables mid.tables after.tables one.applies two.applies);
  quiet = quiet_on before mid after one.quiet two.quiet;
  runs = one.runs;
}

-- ---- a call that ended before it committed all its batches

pub if_some : {A : Type 0} (o : Option A) (P Q : A → Type 0) → ((x : A) → P x → Q x) → IfSome o P → IfSome o Q
if_some None P Q more holds = tt
if_some (Some x) P Q more holds = more x holds

both_none : (left more : List (List Change)) → left ++ more ≡ [] → (left ≡ []) × (more ≡ [])
both_none [] more none = (refl, none)
both_none (batch ∷ left) more none = absurd cc

joined_none : (batches more : List (List Change)) → batches ≡ [] → more ≡ [] → batches ++ more ≡ []
joined_none batches more none also = ap (λ (bs : List (List Change)). bs ++ more) none ∙ also

front_early : (halts : Type 0) (batches more : List (List Change)) (before after : Option Tables) → AppliesFront halts before batches after → AppliesFront halts before (batches ++ more) after
front_early halts batches more before after front = record {
  made = front.made;
  left = front.left ++ more;
  parted = ap (λ (bs : List (List Change)). bs ++ more) front.parted ∙ append_assoc front.made front.left more;
  applies = front.applies;
  short = λ none. (let each = both_none front.left more none in elim (front.short each.0) [ inl e ↦ inl (joined_none batches more e each.1) | inr h ↦ inr h ]);
}

stops_early : (batches more : List (List Change)) (before after : Known) → StopsOnlyFor batches before after → StopsOnlyFor (batches ++ more) before after
stops_early [] [] before after stops = stops
stops_early [] (batch ∷ more) before after stops = tt
stops_early (batch ∷ batches) more before after stops = tt

first_early : (batches more : List (List Change)) (before after : Option Tables) → AppliesFirst before batches after → AppliesFirst before (batches ++ more) after
first_early [] more before after never = absurd never
first_early (batch ∷ batches) more before after applies = applies

fails_early : (batches more : List (List Change)) (before after : Known) (armed : Option Arm) → FailsBy armed batches before after → FailsBy armed (batches ++ more) before after
fails_early batches more before after None fails = fails
fails_early batches more before after (Some FailNext) fails = fails
fails_early batches more before after (Some StopBefore) fails = fails
fails_early batches more before after (Some StopAfter) fails = λ runs. (let f = fails runs in (f.0, f.1, first_early batches more before.tables after.tables f.2))

-- A call that is refused leaves what it leaves, whatever it was to commit besides.
pub ends_early : (batches more : List (List Change)) (how : Ended) (before after : Known) → (how ≡ done → ⊥) → Leaves batches how before after → Leaves (batches ++ more) how before after
ends_early batches more done before after not_done l = absurd (not_done refl)
ends_early batches more failed before after not_done l = record {
  front = front_early (Halts before after) batches more before.tables after.tables l.front;
  risen = l.risen;
  count = l.count;
  stays = l.stays;
  stops = stops_early batches more before after l.stops;
  foretold = if_some before.coming (λ armed. FailsBy armed batches before after) (λ armed. FailsBy armed (batches ++ more) before after) (fails_early batches more before after) l.foretold;
}
ends_early batches more starved before after not_done l = record { front = front_early ⊥ batches more before.tables after.tables l.front; quiet = l.quiet }
ends_early batches more refused before after not_done l = l

-- ---- what is read behind the last commit

runs_still : (batch : List Change) (batches : List (List Change)) (before mid : Known) → IsDone (batch ∷ batches) before mid → RunsFor ([] ∷ []) mid
runs_still batch batches before mid one = (
  quiet_stop before mid one.quiet ∙ one.runs.0,
  subst (λ (c : Option (Option Arm)). IfSome c (λ armed. armed ≡ None)) (sym (quiet_coming before mid one.quiet)) one.runs.1,
)

-- a read, as a commit of no changes
read_as_commit : (how : Ended) (before after : Known) → (how ≡ refused → ⊥) → RunsFor ([] ∷ []) before → Leaves [] how before after → Leaves ([] ∷ []) how before after
read_as_commit done before after not_refused runs l = record { applies = l.applies; quiet = l.quiet; runs = runs }
read_as_commit failed before after not_refused runs l = ends_early [] ([] ∷ []) failed before after (λ e. absurd cc) l
read_as_commit starved before after not_refused runs l = ends_early [] ([] ∷ []) starved before after (λ e. absurd cc) l
read_as_commit refused before after not_refused runs l = absurd (not_refused refl)

pub then_reads_behind : (batch : List Change) (batches : List (List Change)) (how : Ended) (before mid after : Known) → (how ≡ refused → ⊥) → Leaves (batch ∷ batches) done before mid → Leaves [] how mid after → Leaves (batch ∷ batches ++ [] ∷ []) how before after
then_reads_behind batch batches how before mid after not_refused one two =
    then_call (batch ∷ batches) [] [] how before mid after not_refused one (read_as_commit how mid after not_refused (runs_still batch batches before mid one) two)

-- ---- a look, and then any call

runs_from : (batches : List (List Change)) (before mid : Known) → IsQuiet before mid → RunsFor batches mid → RunsFor batches before
runs_from [] before mid quiet runs = tt
runs_from (batch ∷ batches) before mid quiet runs = runs_on [] batch batches before mid quiet tt runs

stops_from : (batches : List (List Change)) (before mid after : Known) → mid.stopped ≡ before.stopped → StopsOnlyFor batches mid after → StopsOnlyFor batches before after
stops_from [] before mid after stop stops = stops ∙ stop
stops_from (batch ∷ batches) before mid after stop stops = tt

fails_after : (batches : List (List Change)) (before mid after : Known) → mid.stopped ≡ before.stopped → KeepsTold before.tables mid.tables → (armed : Option Arm) → FailsBy armed batches mid after → FailsBy armed batches before after
fails_after batches before mid after stop unmoved None fails = (sym stop ∙ fails.0, fails.1)
fails_after batches before mid after stop unmoved (Some FailNext) fails = (fails.0 ∙ stop, fails.1, keeps_on before.tables mid.tables after.tables unmoved fails.2)
fails_after batches before mid after stop unmoved (Some StopBefore) fails = λ runs. (let f = fails (stop ∙ runs) in (f.0, f.1, keeps_on before.tables mid.tables after.tables unmoved f.2))
fails_after [] before mid after stop unmoved (Some StopAfter) fails = λ runs. absurd (fails (stop ∙ runs)).2
fails_after (batch ∷ batches) before mid after stop unmoved (Some StopAfter) fails = fails_from (Some StopAfter) batch batches before mid after stop unmoved fails

front_from : (halts later : Type 0) (batches : List (List Change)) (before mid after : Option Tables) → (later → halts) → Applies before [] mid → AppliesFront later mid batches after → AppliesFront halts before batches after
front_from halts later batches before mid after halt one two = record {
  made = two.made;
  left = two.left;
  parted = two.parted;
  applies = applies_on [] two.made before mid after one two.applies;
  short = λ none. elim (two.short none) [ inl e ↦ inl e | inr h ↦ inr (halt h) ];
}

-- Any call after a look leaves what it would leave without it.
pub then_any : (batches : List (List Change)) (how : Ended) (before mid after : Known) → Leaves [] done before mid → Leaves batches how mid after → Leaves batches how before after
then_any batches done before mid after one two = record {
  applies = applies_on [] batches before.tables mid.tables after.tables one.applies two.applies;
  quiet = quiet_on before mid after one.quiet two.quiet;
  runs = runs_from batches before mid one.quiet two.runs;
}
then_any batches failed before mid after one two =
    let stop = quiet_stop before mid one.quiet in
    let faults = quiet_faults before mid one.quiet in
    let unmoved = applies_same before.tables mid.tables one.applies in
    record {
      front = front_from (Halts before after) (Halts mid after) batches before.tables mid.tables after.tables (λ h. (sym stop ∙ h.0, h.1)) one.applies two.front;
      risen = subst (λ (n : ℕ). HasRisen n after.faults) faults two.risen;
      count = subst (λ (n : ℕ). n ≤ after.faults) faults two.count;
      stays = λ h. (let stays = two.stays (stop ∙ h) in (stays.0, keeps_on before.tables mid.tables after.tables unmoved stays.1));
      stops = stops_from batches before mid after stop two.stops;
      foretold = subst (λ (c : Option (Option Arm)). IfSome c (λ armed. FailsBy armed batches before after)) (quiet_coming before mid one.quiet)
          (if_some mid.coming (λ armed. FailsBy armed batches mid after) (λ armed. FailsBy armed batches before after) (fails_after batches before mid after stop unmoved) two.foretold);
    }
then_any batches starved before mid after one two = record { front = front_from ⊥ ⊥ batches before.tables mid.tables after.tables (λ h. h) one.applies two.front; quiet = quiet_on before mid after one.quiet two.quiet }
then_any batches refused before mid after one two = record { unchanged = keeps_on before.tables mid.tables after.tables (applies_same before.tables mid.tables one.applies) two.unchanged; quiet = quiet_on before mid after one.quiet two.quiet }

-- A look that has no answer ends a call, whatever it was to commit.
pub look_ends : (batches : List (List Change)) (how : Ended) (before after : Known) → (how ≡ done → ⊥) → Leaves [] how before after → Leaves batches how before after
look_ends batches how before after not_done l = ends_early [] batches how before after not_done l

-- ---- where nothing is to come

unarmed_from : (coming : Option (Option Arm)) (before after : Known) (batches : List (List Change)) → coming ≡ Some None → before.stopped ≡ false → IfSome coming (λ armed. FailsBy armed batches before after) → ⊥
unarmed_from None before after batches is runs fails = absurd cc
unarmed_from (Some None) before after batches is runs fails = false_not_true before.stopped runs fails.0
unarmed_from (Some (Some arm)) before after batches is runs fails = (let e : Some (Some arm) ≡ Some None = is in absurd cc)

-- a keeper that runs, and is told that nothing is to come, fails no call
pub never_fails : (batches : List (List Change)) (before after : Known) → IsUnarmed before → Leaves batches failed before after → ⊥
never_fails batches before after unarmed f = unarmed_from before.coming before after batches unarmed.1 unarmed.0 f.foretold

quiet_unarmed : (before after : Known) → IsQuiet before after → IsUnarmed before → IsUnarmed after
quiet_unarmed before after quiet unarmed = (quiet_stop before after quiet ∙ unarmed.0, quiet_coming before after quiet ∙ unarmed.1)

-- and stays so
pub stays_unarmed : (batches : List (List Change)) (how : Ended) (before after : Known) → IsUnarmed before → Leaves batches how before after → IsUnarmed after
stays_unarmed batches done before after unarmed l = quiet_unarmed before after l.quiet unarmed
stays_unarmed batches failed before after unarmed l = absurd (never_fails batches before after unarmed l)
stays_unarmed batches starved before after unarmed l = quiet_unarmed before after l.quiet unarmed
stays_unarmed batches refused before after unarmed l = quiet_unarmed before after l.quiet unarmed

-- ---- a keeper that is not called

same_told : (told : Option Tables) → KeepsTold told told
same_told None = tt
same_told (Some tables) = refl

front_none : (halts : Type 0) (batches : List (List Change)) (told : Option Tables) → AppliesFront halts told batches told
front_none halts batches told = record { made = []; left = batches; parted = refl; applies = same_applies told told (same_told told); short = λ none. inl none }

-- A call that does not ask its keeper leaves it as it is, unless it answers that the keeper failed.
pub not_asked : (how : Ended) (batches : List (List Change)) (known : Known) → (how ≡ failed → ⊥) → (how ≡ done → batches ≡ []) → Leaves batches how known known
not_asked done batches known no_failure none = record { applies = subst (λ (bs : List (List Change)). Applies known.tables bs known.tables) (sym (none refl)) (same_applies known.tables known.tables (same_told known.tables)); quiet = refl; runs = subst (λ (bs : List (List Change)). RunsFor bs known) (sym (none refl)) tt }
not_asked failed batches known no_failure none = absurd (no_failure refl)
not_asked starved batches known no_failure none = record { front = front_none ⊥ batches known.tables; quiet = refl }
not_asked refused batches known no_failure none = record { unchanged = same_told known.tables; quiet = refl }

-- ---- faults handed on

-- a fault that is handed on ends the call as it ended the one that gave it
pub ends_by : {A E : Type 0} (P : Ended → Type 0) (by_fault : E → Ended) (answer : Result A E) (fault : E) → IsErrAnd answer (λ given. given ≡ fault) → P (by_fault fault) → P (ended by_fault answer)
ends_by P by_fault (Ok x) fault is holds = absurd is
ends_by P by_fault (Err given) fault is holds = subst (λ e. P (by_fault e)) (sym is) holds

pub keeper_not_done : (fault : KeepFault) → of_keep_fault fault ≡ done → ⊥
keeper_not_done Failed e = absurd cc
keeper_not_done NoMemory e = absurd cc

abbrev pub refusal : KeepFault → Result (Unit {0}) KeepFault
refusal fault = Err fault

-- a commit, or a look before it, that has no answer ends a call that made batches
pub then_refused : (batches : List (List Change)) (batch : List Change) (fault : KeepFault) (before mid after : Known) → Leaves batches done before mid → Leaves [] (of_keep_fault fault) mid after → Leaves (batches ++ batch ∷ []) (of_keep_fault fault) before after
then_refused batches batch fault before mid after one two =
    then_commit batches batch (refusal fault) before mid after one (ends_early [] (batch ∷ []) (of_keep_fault fault) mid after (keeper_not_done fault) two)

pub handed_on : (fault : KeepFault) → of_store_fault (store_fault_of fault) ≡ of_keep_fault fault
handed_on Failed = refl
handed_on NoMemory = refl

pub store_ends_by : {A : Type 0} (P : Ended → Type 0) (answer : Result A StoreFault) (fault : KeepFault) → IsErrAnd answer (λ given. given ≡ store_fault_of fault) → P (of_keep_fault fault) → P (ended of_store_fault answer)
store_ends_by P answer fault is holds = ends_by P of_store_fault answer (store_fault_of fault) is (subst P (sym (handed_on fault)) holds)

-- a call that read, and then ended without asking its keeper again
pub read_and : (how : Ended) (before after : Known) → (how ≡ failed → ⊥) → Leaves [] done before after → Leaves [] how before after
read_and done before after no_failure l = l
read_and failed before after no_failure l = absurd (no_failure refl)
read_and starved before after no_failure l = record { front = record { made = []; left = []; parted = refl; applies = l.applies; short = λ none. inl none }; quiet = l.quiet }
read_and refused before after no_failure l = record { unchanged = applies_same before.tables after.tables l.applies; quiet = l.quiet }

-- ---- the same by record, for `using`: a call of looks and commits then proves what it leaves with no file

pub failed_look : (batches : List (List Change)) (before after : Known) → IsFailed [] before after → IsFailed batches before after
failed_look batches before after l = look_ends batches failed before after (λ e. absurd cc) l

pub starved_look : (batches : List (List Change)) (before after : Known) → IsStarved [] before after → IsStarved batches before after
starved_look batches before after l = look_ends batches starved before after (λ e. absurd cc) l

pub failed_look_on : (batches : List (List Change)) (before mid after : Known) → IsDone [] before mid → IsFailed [] mid after → IsFailed batches before after
failed_look_on batches before mid after one two = failed_look batches before after (then_any [] failed before mid after one two)

pub starved_look_on : (batches : List (List Change)) (before mid after : Known) → IsDone [] before mid → IsStarved [] mid after → IsStarved batches before after
starved_look_on batches before mid after one two = starved_look batches before after (then_any [] starved before mid after one two)

pub failed_first : (batch : List Change) (rest : List (List Change)) (before after : Known) → IsFailed (batch ∷ []) before after → IsFailed (batch ∷ rest) before after
failed_first batch rest before after l = ends_early (batch ∷ []) rest failed before after (λ e. absurd cc) l

pub starved_first : (batch : List Change) (rest : List (List Change)) (before after : Known) → IsStarved (batch ∷ []) before after → IsStarved (batch ∷ rest) before after
starved_first batch rest before after l = ends_early (batch ∷ []) rest starved before after (λ e. absurd cc) l

pub done_next : (first batch : List Change) (rest : List (List Change)) (before mid after : Known) → IsDone (first ∷ []) before mid → IsDone (batch ∷ rest) mid after → IsDone (first ∷ batch ∷ rest) before after
done_next first batch rest before mid after one two = done_on (first ∷ []) batch rest before mid after one two

pub failed_next : (first batch : List Change) (rest : List (List Change)) (before mid after : Known) → IsDone (first ∷ []) before mid → IsFailed (batch ∷ rest) mid after → IsFailed (first ∷ batch ∷ rest) before after
failed_next first batch rest before mid after one two = failed_on (first ∷ []) batch rest before mid after one two

pub starved_next : (first batch : List Change) (rest : List (List Change)) (before mid after : Known) → IsDone (first ∷ []) before mid → IsStarved (batch ∷ rest) mid after → IsStarved (first ∷ batch ∷ rest) before after
starved_next first batch rest before mid after one two = starved_on (first ∷ []) batch rest before mid after one two

pub done_look : (batches : List (List Change)) (before mid after : Known) → IsDone batches before mid → IsDone [] mid after → IsDone batches before after
done_look batches before mid after one two = then_read batches before mid after one two
