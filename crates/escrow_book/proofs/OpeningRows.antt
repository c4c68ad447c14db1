-- The first opening row that isn't good.
use Rattle.std.proofs.Common.{◌≡◌, ℕ, ◌+◌, ◌<◌, ◌≤◌, Bool, true, false, ◌&&◌, cond, nat_lt, List, [], ◌∷◌, ◌++◌, length, take, drop, get_or, Option, Some, None, ◌↔◌, refl, ap, sym, ◌∙◌, arith}
use Rattle.std.specs.Prelude.{IsTrue}
use Rattle.std.proofs.Math.Seq.{drop-cons, take-suc}
use Rattle.std.proofs.lemmas.Bool.{and_parts, ltb-true}
use Rattle.std.specs.Str.{bytes_eq}
use Rattle.std.proofs.lemmas.Slice.Eq.{bytes_eq-Decides}
use Rattle.std.proofs.lemmas.List.Sums.{sum_by_push}
use Rattle.escrow_book.specs.Opening.{Row, most_rows, asset_amount, total_of, is_good_row, are_good_rows, first_bad_behind}

pub good_or_bad : (front rows : List Row) → (are_good_rows front rows ≡ true) ↔ (first_bad_behind front rows ≡ None)
good_or_bad front [] = (λ e. refl, λ e. refl)
good_or_bad front (row ∷ rest) = at (is_good_row front row) (good_or_bad (front ++ row ∷ []) rest)
  where
    at : (b : Bool) → ((are_good_rows (front ++ row ∷ []) rest ≡ true) ↔ (first_bad_behind (front ++ row ∷ []) rest ≡ None)) → ((b && are_good_rows (front ++ row ∷ []) rest) ≡ true) ↔ (cond b (first_bad_behind (front ++ row ∷ []) rest) (Some (length front)) ≡ None)
    at true later = later
    at false later = (λ e. absurd cc, λ e. absurd cc)

own_amount : (x : List ℕ) (n : ℕ) → cond (bytes_eq x x) n 0 ≡ n
own_amount x n = ap (λ b. cond b n 0) ((bytes_eq-Decides x x).1 refl)

-- a row adds its amount to its asset
pub total_with : (front : List Row) (row : Row) → total_of (front ++ row ∷ []) row.1 ≡ total_of front row.1 + row.2
total_with front row = omega (arith, sum_by_push (asset_amount row.1) front row, own_amount row.1 row.2)
