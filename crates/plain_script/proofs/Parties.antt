-- The parties' names with those of one more declaration.
use Rattle.std.proofs.Common.{◌≡◌, ℕ, List, [], ◌∷◌, ◌++◌, sym, ap, ◌∙◌}
use Rattle.std.specs.List.{flat_map}
use Rattle.std.specs.Ordering.{nat_cmp}
use Rattle.std.specs.Cmp.Lexicographic.{slice_cmp}
use Rattle.std.specs.BTreeSet.{insert_key}
use Rattle.std.proofs.lemmas.List.{append-nil}
use Rattle.std.proofs.lemmas.List.Sums.{fold-append}
use Rattle.std.proofs.lemmas.List.Concat.{flat_map-append}
use Rattle.plain_script.specs.BoundNames.{parties_of, parties_named, with_names}
use Rattle.plain_script.specs.declared.declaration.Declaration.{Declaration}

pub parties_push : (ds : List Declaration) (d : Declaration) → with_names (parties_of ds) (parties_named d) ≡ parties_of (ds ++ d ∷ [])
parties_push ds d =
    sym (ap (with_names []) (flat_map-append parties_named ds (d ∷ []) ∙ ap (λ (xs : List (List ℕ)). flat_map parties_named ds ++ xs) (append-nil (parties_named d)))
    ∙ fold-append (insert_key (slice_cmp nat_cmp)) [] (flat_map parties_named ds) (parties_named d))
