use Rattle.std.proofs.Common.{string_bytes, arith}
use Rattle.plain_core.specs.Tables.{named_text}
use Rattle.plain_core.proofs.Appending.{appended_item}
use Rattle.plain_core.proofs.tables.write_ledgers.Goals as goal

pub loop-name-preserved : goal.loop-name-preserved
loop-name-preserved c =
    appended_item (named_text c.args.declarations.now c.args.ledgers.now) (string_bytes c.write_named.new.out) (string_bytes c.loop-name.out) (string_bytes c.args.out.now) c.args.names.now c.loop-name.name-index c.name-item.result (omega arith) c.name-item.is c.loop-name.invariant c.in_ok-write_named.ensures
