-- Values stored one after another at places of a list, among which one may be twice.
use Rattle.std.proofs.Common.{◌≡◌, ◌≢◌, ℕ, ◌+◌, ◌<◌, ◌≤◌, List, [], length, slice_index, slice_index_or, slice_set, sym, subst, ap, ◌∙◌, inl, inr, arith}
use Rattle.std.proofs.lemmas.List.{get_or-set_same, get_or-set_other}
use Rattle.std.proofs.lemmas.Bool.{cases_lt, cases_eq}

module _ (f : ℕ → List ℕ) (P : ℕ → Type 0) (xs : List (List ℕ)) (places : List ℕ) (first j : ℕ) (y : List ℕ) where
  pub stored_more : slice_index places j < length xs → (P (slice_index places j) → y ≡ f (slice_index places j))
      → ((k : ℕ) → first ≤ k → k < j → P (slice_index places k) → slice_index_or xs (slice_index places k) [] ≡ f (slice_index places k))
      → (k : ℕ) → first ≤ k → k < j + 1 → P (slice_index places k) → slice_index_or (slice_set xs (slice_index places j) y) (slice_index places k) [] ≡ f (slice_index places k)
  stored_more there last held k from lt p = elim (cases_eq (slice_index places k) (slice_index places j)) [
    | inl same ↦ let p = subst P same p in rw same (get_or-set_same xs (slice_index places j) y [] there ∙ last p)
    | inr ne ↦ get_or-set_other xs (slice_index places j) (slice_index places k) y [] ne ∙ held k from (elim (cases_lt k j) [
      | inl less ↦ less
      | inr high ↦ absurd (ne (ap (slice_index places) (omega arith)))
    ]) p
  ]

  pub others_more : (old : List (List ℕ)) → first ≤ j
      → ((i : ℕ) → ((k : ℕ) → first ≤ k → k < j → slice_index places k ≢ i) → slice_index_or xs i [] ≡ slice_index_or old i [])
      → (i : ℕ) → ((k : ℕ) → first ≤ k → k < j + 1 → slice_index places k ≢ i) → slice_index_or (slice_set xs (slice_index places j) y) i [] ≡ slice_index_or old i []
  others_more old low held i none =
      let last = none j low (omega arith) in
      let ne : i ≢ slice_index places j = λ e. last (sym e) in
      get_or-set_other xs (slice_index places j) i y [] ne ∙ held i (λ k from lt. none k from (omega arith))
