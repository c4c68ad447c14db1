-- The rows of a part of a book, and the first of them that is at fault.
use Rattle.std.specs.Prelude.{ℕ, ◌≡◌, ◌+◌, ◌-◌, ◌^◌, ◌<◌, min, Bool, true, false, not, ◌&&◌, ◌||◌, ◌==◌, nat_lt, nat_le, if◌then◌else◌, Option, Some, None, is_some, List, [], ◌∷◌, ◌++◌, length}
use Rattle.std.specs.List.{find}
use Rattle.std.specs.Option.{option_or}
use Rattle.escrow_book.specs.declared.row.BookRow.{BookRow}
use Rattle.escrow_book.specs.declared.row.BookRow.TheVariants.{Free, Deal, Hold, Moves}
use Rattle.std.specs.Str.{bytes_eq}
use Rattle.dh_base.specs.declared.id.Id.{Id}
use Rattle.escrow_book.specs.declared.row.HoldRow.{HoldRow}
use Rattle.escrow_book.specs.declared.row.MovesRow.{MovesRow}
use Rattle.escrow_book.specs.declared.known_deal.KnownDeal.{KnownDeal}
use Rattle.escrow_book.specs.declared.part_fault.PartFault.{PartFault}
use Rattle.escrow_book.specs.declared.part_fault.PartFault.TheVariants.{BadRows, SumTooLarge, NoMemory}
use Rattle.dh_base.specs.Amounts.{greatest_amount}
use Rattle.escrow_book.specs.Opening.{has_row}
use Rattle.dh_base.specs.Ids.{same_id}
use Rattle.escrow_book.specs.Base.{Base, nothing_carried, find_deal, carried_parties, is_hold, is_moves, greatest_turn, base_total}
use Rattle.escrow_book.specs.History.{History, is_among, parties_of, settlement_of, moves_of, if_commit_of, if_abort_of, free_of}
use Rattle.escrow_book.specs.Reached.{begun, are_different}

abbrev pub no_rows : Base
no_rows = ([], nothing_carried)

-- the base with one row more
abbrev pub with_row : Base → BookRow → Base
with_row base (Free account asset amount) = (base.0 ++ (account, asset, amount) ∷ [], base.1)
with_row base (Deal deal parties settled) = (
  base.0,
  record base.1 {
    deals = base.1.deals ++ record { deal = deal; parties = parties; outcome = settled } ∷ [];
  },
)
with_row base (Hold deal account asset commit abort) = (
  base.0,
  record base.1 {
    holds = base.1.holds
        ++ record { deal = deal; account = account; asset = asset; commit = commit; abort = abort }
        ∷ [];
  },
)
with_row base (Moves deal account moves) = (
  base.0,
  record base.1 {
    moves = base.1.moves
        ++ record { deal = deal; account = account; moves = moves } ∷ [];
  },
)

abbrev pub with_rows : Base → List BookRow → Base
with_rows base [] = base
with_rows base (row ∷ rest) = with_rows (with_row base row) rest

-- The row has the key of an earlier one; or it is a deal with fewer than two parties or with one
-- twice; or it names a deal or an account that no earlier deal has; or nothing more could be moved.
abbrev pub is_bad_row : Base → BookRow → Bool
is_bad_row base (Free account asset amount) = has_row base.0 account asset
is_bad_row base (Deal deal parties settled) =
    is_some (find_deal base.1.deals deal)
    || not (nat_le 2 (length parties) && are_different parties)
is_bad_row base (Hold deal account asset commit abort) =
    is_some (find (is_hold deal account asset) base.1.holds)
    || not (is_among account (carried_parties base.1 deal))
is_bad_row base (Moves deal account moves) =
    is_some (find (is_moves deal account) base.1.moves)
    || (not (is_among account (carried_parties base.1 deal)) || (moves == greatest_turn))

-- with the row there is too much of its asset
abbrev pub is_too_large : Base → BookRow → Bool
is_too_large base (Free account asset amount) =
    nat_lt greatest_amount (base_total (base.0 ++ (account, asset, amount) ∷ []) base.1 asset)
is_too_large base (Hold deal account asset commit abort) =
    nat_lt greatest_amount
    (base_total base.0 (record base.1 {
      holds = base.1.holds
          ++ record
          { deal = deal; account = account; asset = asset; commit = commit; abort = abort }
          ∷ [];
    }) asset)
is_too_large base _ = false

-- the fault of the row of that number behind that base
abbrev pub row_fault : Base → ℕ → BookRow → Option PartFault
row_fault base number row =
    if is_bad_row base row then Some (BadRows number)
    else if is_too_large base row then Some (SumTooLarge number) else None

-- the number of the row at that place, which is the greatest number where the place is beyond it
abbrev pub row_number : ℕ → ℕ
row_number place = min place (2 ^ 32 - 1)

-- the fault of the first row that has one
abbrev pub first_fault : Base → ℕ → List BookRow → Option PartFault
first_fault base place [] = None
first_fault base place (row ∷ rest) =
    option_or (row_fault base (row_number place) row)
    (first_fault (with_row base row) (place + 1) rest)

-- the history of the part of these rows
abbrev pub part_of : List BookRow → History
part_of rows = begun (with_rows no_rows rows).0 (with_rows no_rows rows).1

-- The fault is the refusal. Want of memory may come in place of any answer.
abbrev pub IsPartRefusal : PartFault → Option PartFault → Type 0
IsPartRefusal NoMemory refusal = Unit {0}
IsPartRefusal fault refusal = refusal ≡ Some fault

-- no row is bad behind those before it
abbrev pub are_not_bad : Base → List BookRow → Bool
are_not_bad base [] = true
are_not_bad base (row ∷ rest) = not (is_bad_row base row) && are_not_bad (with_row base row) rest

-- the amounts of a hold are of 64 bits, and the moves of 32
abbrev pub FitsRow : BookRow → Type 0
FitsRow (Hold deal account asset commit abort) = (commit < 2 ^ 64) × (abort < 2 ^ 64)
FitsRow (Moves deal account moves) = moves < 2 ^ 32
FitsRow _ = Unit {0}

-- the row says what the history says
abbrev pub Says : History → BookRow → Type 0
Says history (Free account asset amount) = amount ≡ free_of history account asset
Says history (Deal deal parties settled) =
    (parties_of history deal ≡ Some parties) × (settlement_of history deal ≡ settled)
Says history (Hold deal account asset commit abort) =
    (commit ≡ if_commit_of history deal account asset)
    × (abort ≡ if_abort_of history deal account asset)
Says history (Moves deal account moves) = moves ≡ moves_of history deal account

-- the first row that answers
abbrev pub first_in : {T : Type 0} → (BookRow → Option T) → List BookRow → Option T
first_in answer [] = None
first_in answer (row ∷ rest) = option_or (answer row) (first_in answer rest)

-- what the row gives the account of the asset
abbrev pub free_in : Id → List ℕ → BookRow → ℕ
free_in account asset (Free owner kind amount) =
    if same_id account owner && bytes_eq asset kind then amount else 0
free_in account asset _ = 0

-- the row, if it is that deal's, that hold's or that party's
abbrev pub deal_in : Id → BookRow → Option KnownDeal
deal_in deal (Deal within parties settled) =
    if same_id deal within
    then Some (record { deal = within; parties = parties; outcome = settled }) else None
deal_in deal _ = None

abbrev pub hold_in : Id → Id → List ℕ → BookRow → Option HoldRow
hold_in deal account asset (Hold within owner kind commit abort) =
    if same_id deal within && (same_id account owner && bytes_eq asset kind)
    then Some
    (record { deal = within; account = owner; asset = kind; commit = commit; abort = abort })
    else None
hold_in deal account asset _ = None

abbrev pub moves_in : Id → Id → BookRow → Option MovesRow
moves_in deal account (Moves within owner moves) =
    if same_id deal within && same_id account owner
    then Some (record { deal = within; account = owner; moves = moves }) else None
moves_in deal account _ = None
