-- The opening rows of a ledger that a script declares.
use Rattle.std.specs.Prelude.{ℕ, ◌+◌, Bool, not, ◌&&◌, nat_lt, nat_le, if◌then◌else◌, List, [], ◌∷◌, count_by}
use Rattle.std.specs.List.{flat_map, list_any}
use Rattle.std.specs.Str.{bytes_eq}
use Rattle.dh_base.specs.Amounts.{greatest_amount}
use Rattle.escrow_book.specs.Opening.{Row, most_rows, is_good_row as is_good_behind}
use Rattle.plain_script.specs.BoundNames.{opens_on, opens_row, opened_of}
use Rattle.plain_script.specs.Ids.{plain_id}
use Rattle.plain_script.specs.declared.declaration.Declaration.{Declaration}
use Rattle.plain_script.specs.declared.declaration.Declaration.TheVariants.{Ledger, Open, Deal}

-- the row that a declaration opens on the ledger, if it does
abbrev pub rows_by : List ℕ → Declaration → List Row
rows_by on (Ledger name) = []
rows_by on (Open ledger asset party amount) =
    if bytes_eq on ledger then (plain_id party, asset, amount) ∷ [] else []
rows_by on (Deal name parties) = []

-- the rows of the ledger, in the order of their lines
abbrev pub rows_of : List Declaration → List ℕ → List Row
rows_of ds ledger = flat_map (rows_by ledger) ds

-- A row that is declared next is good behind the ledger's rows so far.
abbrev pub is_good_row : List Declaration → List ℕ → List ℕ → List ℕ → ℕ → Bool
is_good_row ds ledger asset party amount =
    is_good_behind (rows_of ds ledger) (plain_id party, asset, amount)

-- the same by the lines so far
abbrev pub is_good_line : List Declaration → List ℕ → List ℕ → List ℕ → ℕ → Bool
is_good_line ds ledger asset party amount =
    nat_lt (count_by (opens_on ledger) ds) most_rows && (nat_lt 0 amount
    && (not (list_any (opens_row ledger asset party) ds)
    && nat_le (opened_of ds ledger asset + amount) greatest_amount))
