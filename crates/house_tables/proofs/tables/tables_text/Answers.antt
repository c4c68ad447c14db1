use Rattle.std.proofs.Common.{◌≡◌, ℕ, List, IfOk, subst, ◌∙◌}
use Rattle.house_tables.proofs.Telling.{told_by_rows}
use Rattle.house_tables.proofs.tables.tables_text.Goals as goal

pub returns : goal.returns
returns c =
    subst (λ (told : List ℕ). IfOk c.rows_text.result (λ text. text ≡ told))
    (told_by_rows c.args.directory.now c.args.name.now c.as_slice.result.now c.as_slice-2.result.now c.as_slice-3.result.now c.args.keeper.now.tables c.rows_in.new.keeper.tables c.rows_in-2.new.keeper.tables (c.as_slice.ensures ∙ c.in_ok-free.ensures.rows) (c.as_slice-2.ensures ∙ c.in_ok-deals.ensures.rows) (c.as_slice-3.ensures ∙ c.in_ok-holds.ensures.rows) c.in_ok-free.ensures.tables c.in_ok-deals.ensures.tables)
    c.rows_text.ensures
