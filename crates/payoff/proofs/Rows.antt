-- Rows of amounts list no more than there is.
use Rattle.std.proofs.Common.{◌≡◌, ℕ, ◌≤◌, ◌==◌, ◌⊎◌, Bool, true, false, cond, Some, None, List, [], ◌∷◌, Contains, refl, ap, inl, inr, arith}
use Rattle.std.specs.Str.{bytes_eq}
use Rattle.std.proofs.lemmas.Slice.Eq.{bytes_eq-Decides}
use Rattle.dh_base.specs.Names.{is_name}
use Rattle.act_text.specs.declared.statement.HeldRow.{HeldRow}
use Rattle.ledger_rows.specs.Scanning.{above_zero, some_of, AreAmounts}
use Rattle.payoff.specs.Agents.{listed_of}
use Rattle.payoff.proofs.Lists.{at_head, in_tail, same_some}

-- the listed amount is 0, or that of a row that names the asset
record IsListed (rows : List HeldRow) (asset : List ℕ) (amount : ℕ) : Type 0 where
  row : HeldRow
  there : Contains rows row
  names : asset ≡ row.asset
  is : amount ≡ row.amount

listed_row : (rows : List HeldRow) (asset : List ℕ) → (listed_of rows asset ≡ 0) ⊎ IsListed rows asset (listed_of rows asset)
listed_row [] asset = inl refl
listed_row (row ∷ rows) asset = by_test (listed_row rows asset) (bytes_eq asset row.asset) refl
  where
    by_test : (listed_of rows asset ≡ 0) ⊎ IsListed rows asset (listed_of rows asset) → (b : Bool) → bytes_eq asset row.asset ≡ b → (cond b row.amount (listed_of rows asset) ≡ 0) ⊎ IsListed (row ∷ rows) asset (cond b row.amount (listed_of rows asset))
    by_test ih true is = inr (record { row = row; there = at_head row rows; names = (bytes_eq-Decides asset row.asset).0 is; is = refl })
    by_test (inl none) false is = inl none
    by_test (inr some) false is = inr (record { row = some.row; there = in_tail row rows some.row some.there; names = some.names; is = some.is })

above_is : (n m : ℕ) → above_zero n ≡ Some m → n ≡ m
above_is n m e = by_test (n == 0) e
  where
    by_test : (b : Bool) → cond b None (Some n) ≡ Some m → n ≡ m
    by_test true e = absurd cc
    by_test false e = same_some n m e

some_is : (amount : List ℕ → ℕ) (asset : List ℕ) (m : ℕ) → some_of amount asset ≡ Some m → amount asset ≡ m
some_is amount asset m e = by_test (is_name asset) e
  where
    by_test : (b : Bool) → cond b (above_zero (amount asset)) None ≡ Some m → amount asset ≡ m
    by_test true e = above_is (amount asset) m e
    by_test false e = absurd cc

pub listed_within : (amount : List ℕ → ℕ) (rows : List HeldRow) (asset : List ℕ) → AreAmounts (some_of amount) rows → listed_of rows asset ≤ amount asset
listed_within amount rows asset are = by_row (listed_row rows asset)
  where
    by_row : (listed_of rows asset ≡ 0) ⊎ IsListed rows asset (listed_of rows asset) → listed_of rows asset ≤ amount asset
    by_row (inl none) = omega (arith, none)
    by_row (inr some) =
        let e : amount some.row.asset ≡ some.row.amount = some_is amount some.row.asset some.row.amount ((are.all some.row).0 some.there) in
        omega (arith, e, ap amount some.names, some.is)
