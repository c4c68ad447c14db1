use Rattle.std.proofs.Common.{◌∙◌, sym, ap, subst, Err}
use Rattle.keeper_core.specs.declared.store_fault.StoreFault.{StoreFault}
use Rattle.ledger_rows.specs.RowReading.{ReadsRow}
use Rattle.ledger_rows.proofs.RowReads.{lacks_form}
use Rattle.ledger_rows.proofs.row_value.read_row.Goals as goal

pub returns-clause-reads : goal.returns-clause-reads
returns-clause-reads g c =
    let value_of = g.V.RowValue.value_of in
    let a = g.K.Keeper.known c.args.keeper.now in
    let b = g.K.Keeper.known c.get.new.self in
    let answers = rw c.in_ok-bytes.was at c.get.ensures.answers in
    let stands = rw c.in-Some.is at answers in
    let leaves = rw c.in_ok-bytes.was at c.get.ensures.leaves in
    let said = rw c.in_ok-value.was at c.from_bytes.ensures in
    let nothing = ap value_of (sym c.as_slice.ensures) ∙ sym said ∙ c.in-None.is in
    subst (λ (fault : StoreFault). ReadsRow value_of c.args.tab c.args.key.now (Err fault) a b) (sym c.bad_row.ensures)
    (lacks_form value_of c.args.tab c.args.key.now c.in-Some.bytes a b nothing stands leaves c.get.ensures.looked)
