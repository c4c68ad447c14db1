use Rattle.std.proofs.Common.{◌≡◌, [], ◌∷◌, ◌+◌, ◌++◌, drop, sym, ap, ◌∙◌, rules, arith}
use Rattle.std.proofs.lemmas.List.{drop_more}
use Rattle.keeper_sql.specs.CellRows.{scan_row}
use Rattle.keeper_sql.proofs.Listing.{next_read, all_read}
use Rattle.keeper_sql.proofs.reads.listed_rows.Goals as goal

pub loop-row-preserved : goal.loop-row-preserved
loop-row-preserved c all is =
    let i = c.loop-row.row-index in
    let next : drop i c.args.rows.now ≡ c.row-item.result ∷ drop (i + 1) c.args.rows.now = search (rules, drop_more) in
    let it = next_read scan_row all i c.args.rows.now _ _ c.loop-row.listed.items is next (c.loop-row.invariant all is) in
    ap (λ xs. xs ++ drop (i + 1) all) (c.in_ok-push.ensures.items ∙ ap (λ r. c.loop-row.listed.items ++ r ∷ []) (c.in_ok-listed_row.ensures it.0 it.1)) ∙ it.2

pub returns : goal.returns
returns c all is = c.from_vec.ensures ∙ all_read scan_row all c.loop-row.row-index c.args.rows.now c.loop-row.listed.items is (omega arith) (c.loop-row.invariant all is)
