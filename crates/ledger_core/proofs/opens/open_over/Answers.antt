use Rattle.std.proofs.Common.{List, subst}
use Rattle.sha2.proofs.Facts256.{length-sha256}
use Rattle.ledger_core.specs.declared.opening.OpenRow.{OpenRow}
use Rattle.ledger_core.specs.Openings.{AreSpelled, book_rows, opening_text, opened_by}
use Rattle.ledger_core.proofs.KeptOpened.{opens_kept, opens_empty}
use Rattle.ledger_core.proofs.opens.open_over.Goals as goal

pub returns-clause-kept : goal.returns-clause-kept
returns-clause-kept g c =
    opens_kept (opened_by c.args.opening.now) (length-sha256 (opening_text c.args.opening.now)) c.open_by_rows.result (g.K.Keeper.known c.args.keeper.now) (g.K.Keeper.known c.open_by_rows.new.keeper) c.open_by_rows.ensures.rows

pub returns-clause-empty : goal.returns-clause-empty
returns-clause-empty g c =
    opens_empty (opened_by c.args.opening.now) (subst (λ (rows : List OpenRow). AreSpelled (book_rows rows)) c.as_slice.ensures c.all_spelled.ensures) c.open_by_rows.result (g.K.Keeper.known c.args.keeper.now) (g.K.Keeper.known c.open_by_rows.new.keeper) c.open_by_rows.ensures.rows
