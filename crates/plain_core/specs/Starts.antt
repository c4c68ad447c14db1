-- The world as a script's declarations start it.
use Rattle.std.specs.Prelude.{ℕ, List, [], map}
use Rattle.escrow_book.specs.Reached.{started}
use Rattle.plain_script.specs.declared.declaration.Declaration.{Declaration}
use Rattle.plain_script.specs.OpeningRows.{rows_of}
use Rattle.plain_core.specs.Openings.{ledger_names}
use Rattle.plain_core.specs.Ledgers.{LedgerTold, World}

-- the most records of the one log
abbrev pub most_records : ℕ
most_records = 4096

abbrev pub started_ledger : List Declaration → List ℕ → LedgerTold
started_ledger ds name = record { name = name; history = started (rows_of ds name); entries = 0 }

-- the ledgers in the order of their lines, and an empty log
abbrev pub started_world : List Declaration → World
started_world ds =
    record {
      ledgers = map (started_ledger ds) (ledger_names ds);
      log = record { entries = []; limit = most_records };
    }
