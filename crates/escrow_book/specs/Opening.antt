-- Opening rows: what accounts hold when a book starts.
use Rattle.std.specs.Prelude.{ℕ, Bool, true, not, ◌&&◌, nat_lt, nat_le, if◌then◌else◌, Option, Some, None, List, [], ◌∷◌, ◌++◌, length}
use Rattle.std.specs.List.{sum_by, list_any}
use Rattle.std.specs.Str.{bytes_eq}
use Rattle.dh_base.specs.Amounts.{greatest_amount}
use Rattle.dh_base.specs.Ids.{same_id}
use Rattle.dh_base.specs.declared.id.Id.{Id}

-- an account, an asset and an amount
abbrev pub Row : Type 0
Row = Id × List ℕ × ℕ

-- what the row gives the account of the asset
abbrev pub row_amount : Id → List ℕ → Row → ℕ
row_amount account asset row = if same_id account row.0 && bytes_eq asset row.1 then row.2 else 0

abbrev pub asset_amount : List ℕ → Row → ℕ
asset_amount asset row = if bytes_eq asset row.1 then row.2 else 0

-- what the rows give the account of the asset
abbrev pub opening_of : List Row → Id → List ℕ → ℕ
opening_of rows account asset = sum_by (row_amount account asset) rows

-- what there is of the asset in all
abbrev pub total_of : List Row → List ℕ → ℕ
total_of rows asset = sum_by (asset_amount asset) rows

-- a row for that account and asset stands in the rows
abbrev pub has_row : List Row → Id → List ℕ → Bool
has_row rows account asset = list_any (λ row. same_id account row.0 && bytes_eq asset row.1) rows

-- the most opening rows of a ledger
abbrev pub most_rows : ℕ
most_rows = 1024

-- A row is good behind those where it is one of the first 1,024, its amount is above 0, its account
-- and asset are new, and the asset's total so far is at most the greatest amount.
abbrev pub is_good_row : List Row → Row → Bool
is_good_row front row =
    nat_lt (length front) most_rows && (nat_lt 0 row.2
    && (not (has_row front row.0 row.1)
    && nat_le (total_of (front ++ row ∷ []) row.1) greatest_amount))

-- each of the rows is good behind the front and the rows before it
abbrev pub are_good_rows : List Row → List Row → Bool
are_good_rows front [] = true
are_good_rows front (row ∷ rest) = is_good_row front row && are_good_rows (front ++ row ∷ []) rest

-- each row is good behind those before it
abbrev pub is_good_opening : List Row → Bool
is_good_opening rows = are_good_rows [] rows

-- the place of the first row that isn't good behind the front and the rows before it
abbrev pub first_bad_behind : List Row → List Row → Option ℕ
first_bad_behind front [] = None
first_bad_behind front (row ∷ rest) =
    if is_good_row front row then first_bad_behind (front ++ row ∷ []) rest else Some (length front)

abbrev pub first_bad_row : List Row → Option ℕ
first_bad_row rows = first_bad_behind [] rows
