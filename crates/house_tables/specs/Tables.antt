-- The final tables of a ledger. Every order is that of the printed text.
use Rattle.std.specs.Prelude.{ℕ, List, [], ◌∷◌, ◌++◌, codes, map, if◌then◌else◌}
use Rattle.std.specs.List.{filter_map}
use Rattle.holder_names.specs.Directories.{Listed}
use Rattle.keeper_core.specs.declared.row.Row.{Row}
use Rattle.keeper_core.specs.Memory.{KeeperTold}
use Rattle.keeper_core.specs.Tables.{Tables, rows_of}
use Rattle.ledger_rows.specs.RowKeys.{free_tab, deal_tab, hold_tab}
use Rattle.house_tables.specs.Lines.{in_order_text}
use Rattle.house_tables.specs.Rows.{free_read, hold_read, deal_read}
use Rattle.house_tables.specs.Printing.{free_line, deal_text}

abbrev pub free_text : List Listed → List Row → List ℕ
free_text listed free = in_order_text (map (free_line listed) (filter_map free_read free))

abbrev pub deals_text : List Listed → List Row → List Row → List ℕ
deals_text listed deals holds =
    in_order_text (map (deal_text listed (filter_map hold_read holds)) (filter_map deal_read deals))

-- from the rows of free amounts, of deals and of holds
abbrev pub rows_text : List Listed → List ℕ → List Row → List Row → List Row → List ℕ
rows_text listed name free deals holds =
    codes "ledger " ++ name ++ (10 ∷ []) ++ free_text listed free ++ deals_text listed deals holds

abbrev pub tables_text : List Listed → List ℕ → Tables → List ℕ
tables_text listed name tables =
    rows_text listed name (rows_of free_tab tables) (rows_of deal_tab tables)
    (rows_of hold_tab tables)

-- of a ledger whose keeper has stopped only that is told
abbrev pub ledger_text : List Listed → List ℕ → KeeperTold → List ℕ
ledger_text listed name keeper =
    if keeper.stopped then codes "ledger " ++ name ++ codes " stopped" ++ 10 ∷ []
    else tables_text listed name keeper.tables
