-- A keeper has the texts of a signer, whatever is committed to other tables.
use Rattle.std.proofs.Common.{◌≡◌, ◌⊎◌, inl, inr, ℕ, Bool, true, false, IsTrue, List, [], ◌∷◌, ◌++◌, Option, Some, None, IfSome, refl, sym, ap, subst, ◌∙◌}
use Rattle.std.specs.List.{AllByRecursion}
use Rattle.keeper_core.specs.declared.change.Change.{Change}
use Rattle.keeper_core.specs.Tables.{Tables, rows_of}
use Rattle.keeper_core.specs.Batches.{after_batch, SparesTable}
use Rattle.keeper_core.specs.Knowing.{Known}
use Rattle.keeper_core.specs.Leaving.{Ended, done, failed, starved, refused, after_batches, KeepsTold, Applies, AppliesFront, Halts, Leaves}
use Rattle.keeper_core.proofs.Leaving.{is_told, not_told, quiet_stop, same_applies}
use Rattle.keeper_core.proofs.OtherTables.{other_tables_stay}
use Rattle.key_ring.specs.UsedTexts.{used_tab, StandsFor, IsBackedBy, IsBacked}

-- no batch is on the table of signed texts
abbrev pub SpareTexts : List (List Change) → Type 0
SpareTexts batches = AllByRecursion (λ batch. SparesTable used_tab batch) batches

spared : (batches : List (List Change)) (tables : Tables) → SpareTexts batches → rows_of used_tab (after_batches batches tables) ≡ rows_of used_tab tables
spared [] tables spare = refl
spared (batch ∷ batches) tables spare = spared batches (after_batch batch tables) spare.1 ∙ other_tables_stay used_tab batch tables spare.0

spare_front : (made left : List (List Change)) → SpareTexts (made ++ left) → SpareTexts made
spare_front [] left spare = tt
spare_front (batch ∷ made) left spare = (spare.0, spare_front made left spare.1)

module _ (texts : List (List ℕ)) where
  applied : (made : List (List Change)) (told after : Option Tables) (stopped later_stopped : Bool) → SpareTexts made → (IsTrue stopped → IsTrue later_stopped) → Applies told made after → IsBackedBy told stopped texts → IsBackedBy after later_stopped texts
  applied made told None stopped later_stopped spare stays applies backed = tt
  applied made None (Some later) stopped later_stopped spare stays applies backed = absurd (not_told later applies)
  applied made (Some tables) (Some later) stopped later_stopped spare stays applies backed =
      let same : rows_of used_tab later ≡ rows_of used_tab tables = ap (rows_of used_tab) (is_told later (after_batches made tables) applies) ∙ spared made tables spare in
      elim backed [
        | inl stands ↦ inl (same ∙ stands)
        | inr (halted, text, stands) ↦ inr (stays halted, text, same ∙ stands)
      ]

  front : (halts : Type 0) (batches : List (List Change)) (told after : Option Tables) (stopped later_stopped : Bool) → SpareTexts batches → (IsTrue stopped → IsTrue later_stopped) → AppliesFront halts told batches after → IsBackedBy told stopped texts → IsBackedBy after later_stopped texts
  front halts batches told after stopped later_stopped spare stays f backed =
      applied f.made told after stopped later_stopped (spare_front f.made f.left (subst SpareTexts f.parted spare)) stays f.applies backed

  -- What a call leaves backs the same texts.
  pub still_backed : (batches : List (List Change)) (how : Ended) (before after : Known) → SpareTexts batches → Leaves batches how before after → IsBacked before texts → IsBacked after texts
  still_backed batches done before after spare l backed = applied batches before.tables after.tables before.stopped after.stopped spare (subst IsTrue (sym (quiet_stop before after l.quiet))) l.applies backed
  still_backed batches failed before after spare l backed = front (Halts before after) batches before.tables after.tables before.stopped after.stopped spare (λ halted. (l.stays halted).0) l.front backed
  still_backed batches starved before after spare l backed = front ⊥ batches before.tables after.tables before.stopped after.stopped spare (subst IsTrue (sym (quiet_stop before after l.quiet))) l.front backed
  still_backed batches refused before after spare l backed = applied [] before.tables after.tables before.stopped after.stopped tt (subst IsTrue (sym (quiet_stop before after l.quiet))) (same_applies before.tables after.tables l.unchanged) backed
