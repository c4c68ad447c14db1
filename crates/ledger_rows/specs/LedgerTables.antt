-- What the tables of a ledger stand for: its opening rows and its entries.
use Rattle.std.specs.Prelude.{ℕ, ◌≡◌, ◌==◌, ◌&&◌, if◌then◌else◌, List, map, Option, Some, None}
use Rattle.std.specs.Int.{w64}
use Rattle.std.specs.Option.{option_map}
use Rattle.std.specs.FinMap.{get}
use Rattle.dh_base.specs.declared.id.Id.{Id}
use Rattle.escrow_book.specs.Opening.{Row}
use Rattle.escrow_book.specs.History.{History, free_of, if_commit_of, if_abort_of, moves_of, settlement_of}
use Rattle.keeper_core.specs.Tables.{Tables}
use Rattle.keeper_core.specs.NumberedRows.{IsNumbered}
use Rattle.ledger_rows.specs.declared.hold.Hold.{Hold}
use Rattle.ledger_rows.specs.declared.entry.Entry.{Entry}
use Rattle.ledger_rows.specs.RowKeys.{free_tab, deal_tab, hold_tab, moves_tab, used_tab, entry_tab, first_id, behind_id, last_id, asset_in, number_in, is_free_key, is_hold_key, is_used_key}
use Rattle.ledger_rows.specs.RowValues.{free_text, registration_text, hold_text, moves_text, used_text, entry_text}
use Rattle.ledger_rows.specs.Entries.{book_of, registration_of, used_of}

-- ---- the row of an amount: none for a zero

abbrev pub free_value : ℕ → Option (List ℕ)
free_value amount = if amount == 0 then None else Some (free_text (record { amount = amount }))

abbrev pub hold_value : Hold → Option (List ℕ)
hold_value hold =
    if (hold.commit == 0) && (hold.abort == 0) then None else Some (hold_text hold)

abbrev pub moves_value : ℕ → Option (List ℕ)
moves_value count = if count == 0 then None else Some (moves_text (record { count = count }))

-- ---- the row at a key of each table

abbrev pub free_row : History → List ℕ → Option (List ℕ)
free_row book key =
    if is_free_key key then free_value (free_of book (first_id key) (asset_in key)) else None

-- what the party owns of the asset in the deal
abbrev pub hold_of : History → Id → Id → List ℕ → Hold
hold_of book deal account asset =
    record {
      commit = if_commit_of book deal account asset;
      abort = if_abort_of book deal account asset;
    }

abbrev pub hold_row : History → List ℕ → Option (List ℕ)
hold_row book key =
    if is_hold_key key
    then hold_value
    (hold_of book (first_id key) (first_id (behind_id key)) (asset_in (behind_id key))) else None

abbrev pub moves_row : History → List ℕ → Option (List ℕ)
moves_row book key =
    moves_value (moves_of book (first_id key) (last_id key))

abbrev pub deal_row : History → List Entry → List ℕ → Option (List ℕ)
deal_row book entries key =
    option_map
    (λ by. registration_text (record {
      registrant = by.0;
      settled = settlement_of book (record { 0 = key });
      text = by.1;
    }))
    (registration_of entries (record { 0 = key }))

abbrev pub used_row : List Entry → List ℕ → Option (List ℕ)
used_row entries key =
    if is_used_key key
    then option_map used_text (used_of entries (first_id key) (number_in key)) else None

-- The rows of each table are those of the history.
pub record StandsFor (tables : Tables) (opening : List Row) (entries : List Entry) : Type 0 where
  pub free : (key : List ℕ) → get tables (free_tab, key) ≡ free_row (book_of opening entries) key
  pub deals : (key : List ℕ)
      → get tables (deal_tab, key) ≡ deal_row (book_of opening entries) entries key
  pub holds : (key : List ℕ) → get tables (hold_tab, key) ≡ hold_row (book_of opening entries) key
  pub moves : (key : List ℕ) → get tables (moves_tab, key) ≡ moves_row (book_of opening entries) key
  pub used : (key : List ℕ) → get tables (used_tab, key) ≡ used_row entries key
  pub numbered : IsNumbered w64 entry_tab 1 (map entry_text entries) tables
