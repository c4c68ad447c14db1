-- Numbers below a bound that pass a test: whether all do, and how many.
use Rattle.std.proofs.Common.{◌≡◌, ℕ, zero, suc, ◌+◌, ◌<◌, ◌≤◌, Bool, true, false, cond, refl, ap, sym, ◌∙◌, ⊎_elim, arith}
use Rattle.std.proofs.lemmas.Bool.{cases_eq, and_parts, and_cases, and_right, true≢false}
use Rattle.vote_log.specs.Deciding.{all_below}
use Rattle.vote_log.specs.Owed.{count_below}

pub all_same : (p q : ℕ → Bool) (n : ℕ) → ((k : ℕ) → k < n → p k ≡ q k) → all_below p n ≡ all_below q n
all_same p q zero f = refl
all_same p q (suc n) f =
    let here : p n ≡ q n = f n (omega arith) in
    let ih : all_below p n ≡ all_below q n = all_same p q n (λ k h. f k (omega arith)) in
    cc

pub count_same : (p q : ℕ → Bool) (n : ℕ) → ((k : ℕ) → k < n → p k ≡ q k) → count_below p n ≡ count_below q n
count_same p q zero f = refl
count_same p q (suc n) f =
    let here : p n ≡ q n = f n (omega arith) in
    let ih : count_below p n ≡ count_below q n = count_same p q n (λ k h. f k (omega arith)) in
    cc

pub all_at : (p : ℕ → Bool) (n k : ℕ) → all_below p n ≡ true → k < n → p k ≡ true
all_at p zero k e less = absurd (omega arith)
all_at p (suc n) k e less =
    let both = and_parts (p n) (all_below p n) e in
    ⊎_elim (λ (same : k ≡ n). ap p same ∙ both.0) (λ (other : k ≡ n → ⊥). all_at p n k both.1 (omega arith)) (cases_eq k n)

pub all_from : (p : ℕ → Bool) (n : ℕ) → ((k : ℕ) → k < n → p k ≡ true) → all_below p n ≡ true
all_from p zero f = refl
all_from p (suc n) f = rw (f n (omega arith)) (all_from p n (λ k h. f k (omega arith)))

pub all_fails : (p : ℕ → Bool) (k n : ℕ) → k < n → p k ≡ false → all_below p n ≡ false
all_fails p k zero less fails = absurd (omega arith)
all_fails p k (suc n) less fails =
    ⊎_elim
    (λ (same : k ≡ n). let here : p n ≡ false = ap p (sym same) ∙ fails in rw here refl)
    (λ (other : k ≡ n → ⊥). and_right (p n) (all_below p n) (all_fails p k n (omega arith) fails))
    (cases_eq k n)

-- where not all pass, one fails
pub one_fails : (p : ℕ → Bool) (n : ℕ) → all_below p n ≡ false → (k : ℕ) × (k < n) × (p k ≡ false)
one_fails p zero e = absurd (true≢false e)
one_fails p (suc n) e =
    ⊎_elim
    (λ (here : p n ≡ false). (n, omega arith, here))
    (λ (rest : all_below p n ≡ false). let ih = one_fails p n rest in (ih.0, omega (arith, ih.1), ih.2))
    (and_cases (p n) (all_below p n) e)

pub count_most : (p : ℕ → Bool) (n : ℕ) → count_below p n ≤ n
count_most p zero = omega arith
count_most p (suc n) =
    let ih = count_most p n in
    elim (p n) as (λ b. cond b 1 0 + count_below p n ≤ suc n) [ true ↦ omega arith | false ↦ omega arith ]

pub count_some : (p : ℕ → Bool) (n k : ℕ) → k < n → p k ≡ true → 1 ≤ count_below p n
count_some p zero k less e = absurd (omega arith)
count_some p (suc n) k less e =
    ⊎_elim
    (λ (same : k ≡ n). let here : p n ≡ true = ap p (sym same) ∙ e in rw here (omega arith))
    (λ (other : k ≡ n → ⊥). let ih = count_some p n k (omega arith) e in omega arith)
    (cases_eq k n)

pub count_less : (p q : ℕ → Bool) (n : ℕ) → ((k : ℕ) → k < n → q k ≡ true → p k ≡ true) → count_below q n ≤ count_below p n
count_less p q zero f = omega arith
count_less p q (suc n) f =
    let ih = count_less p q n (λ k h e. f k (omega arith) e) in
    go (p n) (q n) (f n (omega arith)) ih
  where
    go : (x y : Bool) → (y ≡ true → x ≡ true) → count_below q n ≤ count_below p n → cond y 1 0 + count_below q n ≤ cond x 1 0 + count_below p n
    go x false h ih = omega arith
    go true true h ih = omega arith
    go false true h ih = absurd (true≢false (sym (h refl)))

-- one fewer where one no longer passes
pub count_drops : (p q : ℕ → Bool) (n k : ℕ) → k < n → ((j : ℕ) → j < n → q j ≡ true → p j ≡ true) → p k ≡ true → q k ≡ false → count_below q n + 1 ≤ count_below p n
count_drops p q zero k less f was is = absurd (omega arith)
count_drops p q (suc n) k less f was is =
    ⊎_elim
    (λ (same : k ≡ n).
    let yes : p n ≡ true = ap p (sym same) ∙ was in
    let no : q n ≡ false = ap q (sym same) ∙ is in
    let rest = count_less p q n (λ j h e. f j (omega arith) e) in
    rw (yes, no) (omega arith))
    (λ (other : k ≡ n → ⊥).
    let ih = count_drops p q n k (omega arith) (λ j h e. f j (omega arith) e) was is in
    go (p n) (q n) (f n (omega arith)) ih)
    (cases_eq k n)
  where
    go : (x y : Bool) → (y ≡ true → x ≡ true) → count_below q n + 1 ≤ count_below p n → (cond y 1 0 + count_below q n) + 1 ≤ cond x 1 0 + count_below p n
    go x false h ih = omega arith
    go true true h ih = omega arith
    go false true h ih = absurd (true≢false (sym (h refl)))
