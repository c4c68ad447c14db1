-- A whole book begins with a good opening, and carries nothing along.
use Rattle.std.proofs.Common.{◌≡◌, ℕ, ◌≤◌, Bool, true, false, ◌&&◌, not, nat_lt, nat_le, cond, List, [], ◌∷◌, ◌++◌, length, Option, Some, None, refl, ap, sym, subst, append-nil, append_assoc, arith}
use Rattle.std.specs.Str.{bytes_eq}
use Rattle.std.proofs.lemmas.Bool.{and_parts, leb-true}
use Rattle.std.proofs.lemmas.List.Sums.{sum_by_push}
use Rattle.dh_base.specs.declared.id.Id.{Id}
use Rattle.dh_base.specs.Amounts.{greatest_amount}
use Rattle.escrow_book.specs.Opening.{Row, most_rows, asset_amount, total_of, has_row, is_good_row, are_good_rows, is_good_opening}
use Rattle.escrow_book.specs.Base.{Carried, nothing_carried, carried_parties, carried_outcome, IsGoodBase}
use Rattle.std.specs.Option.{option_or}
use Rattle.escrow_book.specs.declared.known_deal.KnownDeal.{KnownDeal}
use Rattle.escrow_book.specs.declared.row.HoldRow.{HoldRow}
use Rattle.escrow_book.specs.declared.row.MovesRow.{MovesRow}
use Rattle.escrow_book.specs.History.{History}
use Rattle.escrow_book.specs.Reached.{IsGrown, IsReached}
use Rattle.escrow_book.specs.Kept.{base_kept, history_kept, IsKept}
use Rattle.escrow_book.proofs.Same.{name_from_same}

-- the rows read so far have no more of the asset than fits
rows_within : (front rest : List Row) (x : List ℕ) → total_of front x ≤ greatest_amount → are_good_rows front rest ≡ true → total_of (front ++ rest) x ≤ greatest_amount
rows_within front [] x within good = subst (λ (rows : List Row). total_of rows x ≤ greatest_amount) (sym (append-nil front)) within
rows_within front (row ∷ rest) x within good =
    let both = and_parts (is_good_row front row) (are_good_rows (front ++ row ∷ []) rest) good in
    let numbered = and_parts (nat_lt (length front) most_rows) _ both.0 in
    let parts = and_parts (nat_lt 0 row.2) (not (has_row front row.0 row.1) && nat_le (total_of (front ++ row ∷ []) row.1) greatest_amount) numbered.1 in
    let fits = leb-true (total_of (front ++ row ∷ []) row.1) greatest_amount (and_parts (not (has_row front row.0 row.1)) (nat_le (total_of (front ++ row ∷ []) row.1) greatest_amount) parts.1).1 in
    subst (λ (rows : List Row). total_of rows x ≤ greatest_amount) (append_assoc front (row ∷ []) rest) (rows_within (front ++ row ∷ []) rest x (more (bytes_eq x row.1) refl fits) both.1)
  where
    more : (b : Bool) → bytes_eq x row.1 ≡ b → total_of (front ++ row ∷ []) row.1 ≤ greatest_amount → total_of (front ++ row ∷ []) x ≤ greatest_amount
    more true same fits = subst (λ (y : List ℕ). total_of (front ++ row ∷ []) y ≤ greatest_amount) (sym (name_from_same x row.1 same)) fits
    more false other fits =
        let nothing : asset_amount x row ≡ 0 = ap (λ b. cond b row.2 0) other in
        omega (arith, sum_by_push (asset_amount x) front row)

pub total_within : (rows : List Row) (x : List ℕ) → is_good_opening rows ≡ true → total_of rows x ≤ greatest_amount
total_within rows x good = rows_within [] rows x (omega arith) good

-- a good opening alone is a good base
pub good_base : (rows : List Row) → is_good_opening rows ≡ true → IsGoodBase rows nothing_carried
good_base rows good = record { total = λ x. omega (arith, total_within rows x good); known = tt; fits = tt; moves = tt }

pub grown : (h : History) → IsReached h → IsGrown h
grown h r = record {
  good = subst (λ (base : Carried). IsGoodBase h.opening base) (sym r.whole) (good_base h.opening r.good);
  accepted = r.accepted;
}

-- a whole book carries no deal
pub carries_none : (h : History) → IsReached h → (d : Id) → carried_outcome h.carried d ≡ None
carries_none h r d = ap (λ (base : Carried). carried_outcome base d) r.whole

pub kept_at_start : (rows : List Row) → is_good_opening rows ≡ true → IsKept (history_kept (base_kept rows [] [] []) []) [] []
kept_at_start rows good = record {
  grown = record { good = good_base rows good; accepted = tt };
  ends = tt;
  parties = λ d. refl;
  outcomes = λ d. refl;
}

pub none_behind : {T : Type 0} (o : Option T) → option_or o None ≡ o
none_behind None = refl
none_behind (Some t) = refl

-- a part before the first change has its own deals at hand
pub part_at_start : (rows : List Row) (deals : List KnownDeal) (holds : List HoldRow) (moves : List MovesRow) → IsGoodBase rows (base_kept rows deals holds moves).1 → IsKept (history_kept (base_kept rows deals holds moves) []) [] deals
part_at_start rows deals holds moves good = record {
  grown = record { good = good; accepted = tt };
  ends = tt;
  parties = λ d. none_behind (carried_parties (base_kept rows deals holds moves).1 d);
  outcomes = λ d. none_behind (carried_outcome (base_kept rows deals holds moves).1 d);
}
