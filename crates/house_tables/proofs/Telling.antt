-- The tables of rows that were read one table after another, while nothing changed.
use Rattle.std.proofs.Common.{◌≡◌, ℕ, List, ap, ◌∙◌}
use Rattle.holder_names.specs.Directories.{Listed}
use Rattle.keeper_core.specs.declared.row.Row.{Row}
use Rattle.keeper_core.specs.Tables.{Tables, rows_of}
use Rattle.ledger_rows.specs.RowKeys.{free_tab, deal_tab, hold_tab}
use Rattle.house_tables.specs.Tables.{tables_text, rows_text}

pub told_by_rows : (listed : List Listed) (name : List ℕ) (free deals holds : List Row) (tables later last : Tables) → free ≡ rows_of free_tab tables → deals ≡ rows_of deal_tab later → holds ≡ rows_of hold_tab last → later ≡ tables → last ≡ later → rows_text listed name free deals holds ≡ tables_text listed name tables
told_by_rows listed name free deals holds tables later last free_are deals_are holds_are same same' =
    ap (λ (rows : List Row). rows_text listed name rows deals holds) free_are
    ∙ (ap (λ (rows : List Row). rows_text listed name (rows_of free_tab tables) rows holds) (deals_are ∙ ap (rows_of deal_tab) same)
    ∙ ap (rows_text listed name (rows_of free_tab tables) (rows_of deal_tab tables)) (holds_are ∙ ap (rows_of hold_tab) (same' ∙ same)))
