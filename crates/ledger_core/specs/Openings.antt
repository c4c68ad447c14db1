-- Openings: which ledger is opened, and what its accounts can spend at first.
use Rattle.std.specs.Prelude.{ℕ, ◌≡◌, List, ◌++◌, map, length, IsTrue}
use Rattle.std.specs.Int.{w64, to_be_bytes}
use Rattle.std.specs.List.{flat_map, AllByRecursion}
use Rattle.cert_core.specs.Sets.{set_text, id_of_set}
use Rattle.dh_base.specs.Fields.{name_field}
use Rattle.dh_base.specs.Names.{is_name}
use Rattle.escrow_book.specs.Opening.{Row}
use Rattle.ledger_rows.specs.Entries.{digest_of}
use Rattle.ledger_acts.specs.LedgerStep.{Opened}
use Rattle.ledger_core.specs.declared.opening.OpenRow.{OpenRow}
use Rattle.ledger_core.specs.declared.opening.Opening.{Opening}

-- the rows of a book's opening
abbrev pub book_row : OpenRow → Row
book_row row = (row.account, row.asset, row.amount)

abbrev pub book_rows : List OpenRow → List Row
book_rows rows = map book_row rows

abbrev pub open_row_text : OpenRow → List ℕ
open_row_text row = name_field row.asset ++ row.account.0 ++ to_be_bytes w64 row.amount

-- the name, the genesis set and the rows
abbrev pub opening_text : Opening → List ℕ
opening_text opening =
    name_field opening.name ++ set_text opening.genesis ++ flat_map open_row_text opening.rows

-- The ledger is known by its name, its house, its rows, and the digest of the opening's text.
abbrev pub opened_by : Opening → Opened
opened_by opening =
    record {
      name = opening.name;
      house = id_of_set opening.genesis;
      rows = book_rows opening.rows;
      identity = digest_of (opening_text opening);
    }

-- Accounts have 32 bytes, and assets are names.
abbrev pub AreSpelled : List Row → Type 0
AreSpelled rows =
    AllByRecursion (λ (row : Row). (length row.0.0 ≡ 32) × IsTrue (is_name row.1)) rows
