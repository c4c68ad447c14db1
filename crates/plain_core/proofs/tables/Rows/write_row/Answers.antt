use Rattle.std.proofs.Common.{string_bytes}
use Rattle.plain_core.specs.declared.tables.Rows.TheVariants.{Free, Held}
use Rattle.plain_core.specs.Tables.{free_row, hold_row, row_text}
use Rattle.plain_core.proofs.Appending.{appended_same}
use Rattle.plain_core.proofs.RowTexts.{free_same, held_same}
use Rattle.plain_core.proofs.tables.Rows.write_row.Goals as goal

pub returns-in-Free : goal.returns-in-Free
returns-in-Free c =
    let h = c.args.book.now in
    let asset = c.args.asset.now in
    let party = c.args.party.now in
    rw c.in-Free.is (appended_same c.write_free.result (string_bytes c.write_free.new.out) (string_bytes c.args.out.now) (free_row asset party c.free.result) (row_text Free h asset party) (free_same h asset party c.plain_id-account.result c.free.result c.plain_id-account.ensures c.free.ensures) c.write_free.ensures)

pub returns-in-Held : goal.returns-in-Held
returns-in-Held c =
    let h = c.args.book.now in
    let deal = c.in-Held.deal in
    let asset = c.args.asset.now in
    let party = c.args.party.now in
    rw c.in-Held.is (appended_same c.write_hold.result (string_bytes c.write_hold.new.out) (string_bytes c.args.out.now) (hold_row deal asset party c.if_commit-commit.result c.if_abort-abort.result) (row_text (Held deal) h asset party) (held_same h deal asset party c.plain_id-id.result c.plain_id-account.result c.if_commit-commit.result c.if_abort-abort.result c.plain_id-id.ensures c.plain_id-account.ensures c.if_commit-commit.ensures c.if_abort-abort.ensures) c.write_hold.ensures)
