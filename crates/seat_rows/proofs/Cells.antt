-- What a batch of a seat's rows leaves at each cell.
use Rattle.std.proofs.Common.{◌≡◌, ℕ, ◌+◌, ◌<◌, ◌≤◌, ◌^◌, Bool, true, false, cond, List, [], ◌∷◌, ◌++◌, map, length, Option, Some, None, refl, sym, ap, subst, ◌∙◌, arith}
use Rattle.std.specs.Int.{w32, to_be_bytes}
use Rattle.std.specs.Ordering.{eq_by_cmp, nat_cmp}
use Rattle.std.specs.Cmp.Lexicographic.{slice_cmp}
use Rattle.std.specs.FinMap.{get, insert, get-insert}
use Rattle.std.proofs.lemmas.List.{length-append, length-map, map-append}
use Rattle.keeper_core.specs.declared.change.Change.{Change}
use Rattle.keeper_core.specs.declared.change.Change.TheVariants.{Put, Delete}
use Rattle.keeper_core.specs.Tables.{Cell, cell_cmp, Tables, rows_of}
use Rattle.keeper_core.specs.Batches.{after_change, after_batch, SparesTable}
use Rattle.keeper_core.specs.NumberedRows.{IsNumbered}
use Rattle.keeper_core.proofs.Numbered.{cells_total}
use Rattle.keeper_core.proofs.NumberedOn.{numbers_on}
use Rattle.keeper_core.proofs.OtherTables.{other_tables_stay}
use Rattle.vote_log.specs.Entry.{Entry}
use Rattle.vote_log.specs.RecordTexts.{record_text}
use Rattle.deal_log.specs.DealTexts.{TextMap}
use Rattle.seat_rows.specs.SeatTables.{record_tab, text_tab, record_texts}
use Rattle.seat_rows.specs.SeatChanges.{record_change}

-- a row that is put
pub put_at : (tab : ℕ) (key val : List ℕ) (tables : Tables) (cell : Cell) → get (after_change (Put tab key val) tables) cell ≡ cond (eq_by_cmp cell_cmp cell (tab, key)) (Some val) (get tables cell)
put_at tab key val tables cell = get-insert cells_total tables (tab, key) val cell

pub record_texts_more : (entries : List Entry) (entry : Entry) → record_texts (entries ++ entry ∷ []) ≡ record_texts entries ++ record_text entry ∷ []
record_texts_more entries entry = map-append record_text entries (entry ∷ [])

pub record_count : (entries : List Entry) → length (record_texts entries) ≡ length entries
record_count entries = simp length-map

-- the next record is numbered on
pub record_next : (tables : Tables) (entries : List Entry) (entry : Entry) → IsNumbered w32 record_tab 0 (record_texts entries) tables → length entries < 2 ^ 32
    → IsNumbered w32 record_tab 0 (record_texts (entries ++ entry ∷ [])) (after_change (record_change (length entries) entry) tables)
record_next tables entries entry is small =
    let count = record_count entries in
    let at_end = numbers_on w32 record_tab 0 (record_texts entries) (record_text entry) tables is (omega (arith, count, small)) in
    subst (λ (ts : List (List ℕ)). IsNumbered w32 record_tab 0 ts (after_change (record_change (length entries) entry) tables)) (sym (record_texts_more entries entry))
    (subst (λ (n : ℕ). IsNumbered w32 record_tab 0 (record_texts entries ++ record_text entry ∷ []) (insert tables (record_tab, to_be_bytes w32 n) (record_text entry))) (omega (arith, count)) at_end)
