-- A keeper has the texts that are signed, whatever is committed to other tables.
use Rattle.std.proofs.Common.{◌≡◌, ◌⊎◌, inl, inr, ℕ, Bool, true, false, IsTrue, List, [], ◌∷◌, ◌++◌, Option, Some, None, IfSome, refl, sym, ap, subst, ◌∙◌}
use Rattle.keeper_core.specs.declared.change.Change.{Change}
use Rattle.keeper_core.specs.Tables.{Tables, rows_of}
use Rattle.keeper_core.specs.Batches.{after_batch, SparesTable}
use Rattle.keeper_core.specs.Knowing.{Known}
use Rattle.keeper_core.specs.Leaving.{Ended, done, failed, starved, refused, KeepsTold, Applies, Halts, Leaves}
use Rattle.keeper_core.proofs.Leaving.{is_told, not_told, quiet_stop}
use Rattle.keeper_core.proofs.OtherTables.{other_tables_stay}
use Rattle.keeper_core.proofs.Stepping.{unmoved_or_stopped}
use Rattle.key_ring.specs.UsedTexts.{used_tab, StandsFor, IsBackedBy, IsBacked}

module _ (batch : List Change) (texts : List (List ℕ)) (spare : SparesTable used_tab batch) where
  same_rows : (tables later : Tables) (stopped stops : Bool) → rows_of used_tab later ≡ rows_of used_tab tables → (IsTrue stopped → IsTrue stops) → IsBackedBy (Some tables) stopped texts → IsBackedBy (Some later) stops texts
  same_rows tables later stopped stops same stays backed = elim backed [
    | inl stands ↦ inl (same ∙ stands)
    | inr (halted, text, stands) ↦ inr (stays halted, text, same ∙ stands)
  ]

  applied : (told after : Option Tables) (stopped stops : Bool) → (IsTrue stopped → IsTrue stops) → Applies told (batch ∷ []) after → IsBackedBy told stopped texts → IsBackedBy after stops texts
  applied told None stopped stops stays applies backed = tt
  applied None (Some later) stopped stops stays applies backed = absurd (not_told later applies)
  applied (Some tables) (Some later) stopped stops stays applies backed =
      same_rows tables later stopped stops (ap (rows_of used_tab) (is_told later (after_batch batch tables) applies) ∙ other_tables_stay used_tab batch tables spare) stays backed

  kept : (told after : Option Tables) (stopped stops : Bool) → (IsTrue stopped → IsTrue stops) → KeepsTold told after → IsBackedBy told stopped texts → IsBackedBy after stops texts
  kept told None stopped stops stays keeps backed = tt
  kept None (Some later) stopped stops stays keeps backed = absurd (not_told later keeps)
  kept (Some tables) (Some later) stopped stops stays keeps backed = same_rows tables later stopped stops (ap (rows_of used_tab) (is_told later tables keeps)) stays backed

  either : (how : Ended) (before after : Known) → (how ≡ done → ⊥) → (IsTrue before.stopped → IsTrue after.stopped) → Leaves (batch ∷ []) how before after → IsBacked before texts → IsBacked after texts
  either how before after not_done stays l backed = elim (unmoved_or_stopped (batch ∷ []) how before after not_done tt l) [
    | inl keeps ↦ kept before.tables after.tables before.stopped after.stopped stays keeps backed
    | inr (halted, applies) ↦ applied before.tables after.tables before.stopped after.stopped stays applies backed
  ]

  quiet : (before after : Known) → after.stopped ≡ before.stopped → IsTrue before.stopped → IsTrue after.stopped
  quiet before after same halted = subst IsTrue (sym same) halted

  -- what a call leaves that commits the batch backs the same texts
  pub still_backed : (how : Ended) (before after : Known) → Leaves (batch ∷ []) how before after → IsBacked before texts → IsBacked after texts
  still_backed done before after l backed = applied before.tables after.tables before.stopped after.stopped (quiet before after (quiet_stop before after l.quiet)) l.applies backed
  still_backed failed before after l backed = either failed before after (λ e. (let s : failed ≡ done = e in absurd cc)) (λ halted. (l.stays halted).0) l backed
  still_backed starved before after l backed = either starved before after (λ e. (let s : starved ≡ done = e in absurd cc)) (quiet before after (quiet_stop before after l.quiet)) l backed
  still_backed refused before after l backed = either refused before after (λ e. (let s : refused ≡ done = e in absurd cc)) (quiet before after (quiet_stop before after l.quiet)) l backed
