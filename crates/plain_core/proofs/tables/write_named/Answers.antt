use Rattle.std.proofs.Common.{string_bytes, ap}
use Rattle.plain_core.specs.Tables.{found_text, ledger_text, named_text}
use Rattle.plain_core.proofs.Appending.{appended_same, appended_none}
use Rattle.plain_core.proofs.tables.write_named.Goals as goal

pub returns-in-Some : goal.returns-in-Some
returns-in-Some c =
    appended_same c.write_ledger.result (string_bytes c.write_ledger.new.out) (string_bytes c.args.out.now) (ledger_text c.args.declarations.now c.in-Some.ledger.now) (named_text c.args.declarations.now c.args.ledgers.now c.args.name.now) (ap (found_text c.args.declarations.now) c.in-Some.ensures) c.write_ledger.ensures

pub returns-in-None : goal.returns-in-None
returns-in-None c =
    appended_none (string_bytes c.args.out.now) (named_text c.args.declarations.now c.args.ledgers.now c.args.name.now) (ap (found_text c.args.declarations.now) c.in-None.ensures)
