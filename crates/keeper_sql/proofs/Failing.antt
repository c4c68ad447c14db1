-- What a selection that fails leaves.
use Rattle.std.proofs.Common.{◌≡◌, ◌⊎◌, List, ℕ, Bool, true, false, Option, None, Some, IfOk, refl, Ok, Err, Result, IfErr, OnOk, OnErr, IsTrue, sym, ap, subst, ◌∙◌, inl, inr}
use Rattle.sqlite.specs.Order.{Row}
use Rattle.sqlite.specs.declared.error.Error.{Error}
use Rattle.sqlite.specs.Clock.{timed}
use Rattle.sqlite.specs.Listing.{understood}
use Rattle.sqlite.specs.State.{State, IsUnchanged, IsRolledBack, FailsToQuery, FailsToShow, IsNotRun, Shown, ShowsRows, RunsCommand}
use Rattle.sqlite.specs.Schema.{Schema}
use Rattle.sqlite_resolve.specs.declared.compiled.Compiled.{Compiled}
use Rattle.sqlite_schema.specs.declared.command.Returning.{Returning}
use Rattle.sqlite.specs.View.{doubt}
use Rattle.sqlite_trees.proofs.Doubt.{no_doubt}
use Rattle.sqlite.proofs.Callers.{IsPlain}
use Rattle.keeper_sql.specs.Statements.{the_schema}

pub plain_of : (old : State) (sql : List ℕ) → old.now.schema ≡ the_schema → IsPlain (understood the_schema sql) → IsPlain (understood old.now.schema sql)
plain_of old sql has plain = subst (λ (s : Schema). IsPlain (understood s sql)) (sym has) plain

pub fails_leaves : (sql : List ℕ) (params : Row) (old new : State) (e : Error) → IsPlain (understood old.now.schema sql) → FailsToQuery sql params old new e → IsUnchanged old new ⊎ IsRolledBack old new
unfolding FailsToQuery IsNotRun
fails_leaves sql params old new e plain (inl (inl h)) = inl h.1
fails_leaves sql params old new e plain (inl (inr f)) = inr f.3
fails_leaves sql params old new e plain (inr h) =
    let none = (subst IsPlain h.1.is plain).0 in
    let it = subst (FailsToShow old new sql h.0 (timed params h.0.formats h.1.now) e) none h.2 in
    inl it.3

still : (old new : State) → IsUnchanged old new ⊎ IsRolledBack old new → (IsTrue old.is_open → old.now ≡ old.committed) → IsTrue new.is_open → new.now ≡ old.now
still old new (inl same) settled live = same.0.now_is
still old new (inr back) settled live = (back.undone live).0 ∙ sym (settled (back.was_open live))

pub stays_if : {A : Type 0} (old new : State) (r : Result A Error) (Fails : Error → Type 0) → OnOk r (IsUnchanged old new) → IfErr r Fails → ((e : Error) → Fails e → IsUnchanged old new ⊎ IsRolledBack old new)
    → (IsTrue old.is_open → old.now ≡ old.committed) → IsTrue new.is_open → new.now ≡ old.now
stays_if old new (Ok a) Fails ok err how settled live = still old new (inl ok) settled live
stays_if old new (Err e) Fails ok err how settled live = still old new (how e err) settled live

-- ---- a connection that is open was open before

opened : (old new : State) → IsUnchanged old new ⊎ IsRolledBack old new → IsTrue new.is_open → IsTrue old.is_open
opened old new (inl same) live = same.0.was_open
opened old new (inr back) live = back.was_open live

shows_open : (old new : State) (sql : List ℕ) (c : Compiled) (params : Row) (rows : List Row) (what : Option Returning) → ShowsRows old new sql c params rows what → IsTrue old.is_open
shows_open old new sql c params rows None h = h.3.0.was_open
shows_open old new sql c params rows (Some what) h = h.1.shown.was_open

pub shown_open : (sql : List ℕ) (params : Row) (old new : State) (rows : List Row) → Shown sql params old new rows → IsTrue old.is_open
unfolding Shown
shown_open sql params old new rows h = shows_open old new sql h.0 _ rows h.0.returning h.2

fails_open : (old new : State) (sql : List ℕ) (c : Compiled) (params : Row) (e : Error) (what : Option Returning) → FailsToShow old new sql c params e what → IsUnchanged old new ⊎ IsRolledBack old new
fails_open old new sql c params e None h = inl h.3
fails_open old new sql c params e (Some what) (inl h) = inl h.1
fails_open old new sql c params e (Some what) (inr f) = inr f.3

pub failed_open : (sql : List ℕ) (params : Row) (old new : State) (e : Error) → FailsToQuery sql params old new e → IsTrue new.is_open → IsTrue old.is_open
unfolding FailsToQuery IsNotRun
failed_open sql params old new e (inl (inl h)) live = h.1.0.was_open
failed_open sql params old new e (inl (inr f)) live = f.3.was_open live
failed_open sql params old new e (inr h) live = opened old new (fails_open old new sql h.0 _ e h.0.returning h.2) live

pub open_if : {A : Type 0} (old new : State) (r : Result A Error) (P : A → Type 0) (Q : Error → Type 0) → IfOk r P → IfErr r Q → ((a : A) → P a → IsTrue old.is_open)
    → ((e : Error) → Q e → IsTrue new.is_open → IsTrue old.is_open) → IsTrue new.is_open → IsTrue old.is_open
open_if old new (Ok a) P Q ok err f h live = f a ok
open_if old new (Err e) P Q ok err f h live = h e err live

-- a store that is open is clean
pub clean_if_open : (clean live : Bool) → (clean ≡ false → live ≡ false) → IsTrue live → doubt clean ≡ 0
clean_if_open true is_open law live = no_doubt true refl
clean_if_open false is_open law live = absurd (let shut = law refl in cc)

pub err_weaker : {A E P Q : Type 0} (r : Result A E) → (P → Q) → OnErr r P → OnErr r Q
err_weaker (Ok a) f h = tt
err_weaker (Err e) f h = f h
