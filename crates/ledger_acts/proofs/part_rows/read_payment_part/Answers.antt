use Rattle.ledger_acts.specs.Movements.{payment_rows}
use Rattle.ledger_acts.proofs.PartReads.{made_of}
use Rattle.ledger_acts.proofs.part_rows.read_payment_part.Goals as goal

pub returns : goal.returns
returns g c =
    let before = g.K.Keeper.known c.args.keeper.now in
    let after = g.K.Keeper.known c.read_both_free.new.keeper in
    let read = rw c.in_ok-said.was at c.read_both_free.ensures in
    made_of _ _ _ (payment_rows c.args.from.now c.args.to.now c.args.asset.now) before after c.in_ok-said.said c.in_ok-rows.rows c.in_ok-rows.ensures read
