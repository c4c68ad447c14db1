-- Groups of chains that wait to be walked.
use Rattle.std.proofs.Common.{◌≡◌, ◌≢◌, ℕ, zero, suc, ◌+◌, ◌*◌, ◌<◌, ◌≤◌, List, [], length, slice_index, slice_index_or, slice_set, refl, sym, ap, subst, ◌∙◌, inl, inr, ◌⊎◌, arith}
use Rattle.std.proofs.lemmas.List.{get_or-set_same, get_or-set_other}
use Rattle.std.proofs.lemmas.Bool.{cases_lt, cases_eq}
use Rattle.ots_core.specs.Chains.{chain}
use Rattle.ots_core.specs.Walks.{IsUnderWay, place_of}

-- a place from `first` on and below n with that number, or none
find : (places : List ℕ) (k first n : ℕ) → ((j : ℕ) × (first ≤ j) × (j < n) × (slice_index places j ≡ k)) ⊎ ((j : ℕ) → first ≤ j → j < n → slice_index places j ≢ k)
find places k first zero = inr (λ j ge lt. absurd (omega arith))
find places k first (suc n) = elim (find places k first n) [
  | inl found ↦ inl (found.0, found.1, omega (arith, found.2), found.3)
  | inr none ↦ elim (cases_lt n first) [
    | inl low ↦ inr (λ j ge lt. absurd (omega arith))
    | inr high ↦ elim (cases_eq (slice_index places n) k) [
      | inl here ↦ inl (n, high, omega arith, here)
      | inr not_here ↦ inr (λ j ge lt. elim (cases_lt j n) [
        | inl less ↦ none j ge less
        | inr up ↦ λ e. let same : j ≡ n = omega arith in not_here (ap (slice_index places) (sym same) ∙ e)
      ])
    ]
  ]
]

module _ (ident : List ℕ) (q : ℕ) (from to : List ℕ) (before : List (List ℕ)) where
  -- none has been seen
  pub none_seen : (group : List ℕ) (first : ℕ) → IsUnderWay ident q from to before 0 group first first before
  none_seen group first = record {
    order = omega arith;
    waiting = λ j ge lt. absurd (omega arith);
    as_before = λ j ge lt. absurd (omega arith);
    rest = λ k lt ge. refl;
    walked = λ k lt below none. absurd (omega arith);
  }

  -- a chain with another number of steps
  pub passed : (steps i : ℕ) (group : List ℕ) (first count : ℕ) (after : List (List ℕ)) → i < 67 → slice_index from i ≤ slice_index to i → slice_index to i ≢ slice_index from i + steps
      → IsUnderWay ident q from to before (67 * steps + i) group first count after → IsUnderWay ident q from to before (67 * steps + (i + 1)) group first count after
  passed steps i group first count after lt forward other held = record {
    order = held.order;
    waiting = λ j ge few. let w = held.waiting j ge few in omega arith;
    as_before = held.as_before;
    rest = λ k lt ge. held.rest k lt (omega arith);
    walked = λ k below seen none. held.walked k below (elim (cases_eq k i) [
      | inl same ↦ let seen : place_of from to i < 67 * steps + (i + 1) = subst (λ n. place_of from to n < 67 * steps + (i + 1)) same seen in
          rw same (omega arith)
      | inr ne ↦ omega arith
    ]) none;
  }

  -- a chain that waits
  pub joined : (steps i : ℕ) (group : List ℕ) (first count : ℕ) (after : List (List ℕ)) → i < 67 → count < 8 → length group ≡ 8 → slice_index to i ≡ slice_index from i + steps
      → IsUnderWay ident q from to before (67 * steps + i) group first count after → IsUnderWay ident q from to before (67 * steps + (i + 1)) (slice_set group count i) first (count + 1) after
  joined steps i group first count after lt few long way held =
      let here : slice_index (slice_set group count i) count ≡ i = get_or-set_same group count i 0 (omega arith) in
      let there : (j : ℕ) → j ≢ count → slice_index (slice_set group count i) j ≡ slice_index group j = λ j ne. get_or-set_other group count j i 0 ne in
      let by_cases : (P : ℕ → Type 0) → P i → ((j : ℕ) → first ≤ j → j < count → P (slice_index group j)) → (j : ℕ) → first ≤ j → j < count + 1 → P (slice_index (slice_set group count i) j) =
      λ P last all j ge less. elim (cases_lt j count) [
        | inl low ↦ let ne : j ≢ count = omega arith in subst P (sym (there j ne)) (all j ge low)
        | inr high ↦ let e : count ≡ j = omega arith in subst (λ n. P (slice_index (slice_set group count i) n)) e (subst P (sym here) last)
      ] in
      record {
        order = omega (arith, held.order);
        waiting = by_cases (λ n. place_of from to n < 67 * steps + (i + 1)) (omega arith) (λ j ge low. let w = held.waiting j ge low in omega arith);
        as_before = by_cases (λ n. slice_index_or after n [] ≡ slice_index_or before n []) (held.rest i lt (omega arith)) held.as_before;
        rest = λ k below ge. held.rest k below (omega arith);
        walked = λ k below seen none.
            let ne : k ≢ i = λ e. none count held.order (omega arith) (here ∙ sym e) in
            held.walked k below (omega arith) (λ j ge low. let ne : j ≢ count = omega arith in λ e. none j ge (omega arith) (there j ne ∙ e));
      }

  -- the group is walked
  pub cleared : (seen : ℕ) (group : List ℕ) (first count : ℕ) (after new : List (List ℕ))
      → ((j : ℕ) → first ≤ j → j < count → slice_index_or new (slice_index group j) []
      ≡ chain ident q (slice_index group j) (slice_index from (slice_index group j)) (slice_index to (slice_index group j)) (slice_index_or after (slice_index group j) []))
      → ((k : ℕ) → ((j : ℕ) → first ≤ j → j < count → slice_index group j ≢ k) → slice_index_or new k [] ≡ slice_index_or after k [])
      → IsUnderWay ident q from to before seen group first count after → IsUnderWay ident q from to before seen group 0 0 new
  cleared seen group first count after new stored others held = record {
    order = omega arith;
    waiting = λ j ge lt. absurd (omega arith);
    as_before = λ j ge lt. absurd (omega arith);
    rest = λ k below high. others k (λ j ge lt e. let w = subst (λ n. place_of from to n < seen) e (held.waiting j ge lt) in absurd (omega arith)) ∙ held.rest k below high;
    walked = λ k below low none. elim (find group k first count) [
      | inl found ↦
          subst (λ n. slice_index_or new n [] ≡ chain ident q n (slice_index from n) (slice_index to n) (slice_index_or before n [])) found.3
          (stored found.0 found.1 found.2 ∙ ap (chain ident q (slice_index group found.0) (slice_index from (slice_index group found.0)) (slice_index to (slice_index group found.0))) (held.as_before found.0 found.1 found.2))
      | inr missing ↦ others k missing ∙ held.walked k below low missing
    ];
  }
