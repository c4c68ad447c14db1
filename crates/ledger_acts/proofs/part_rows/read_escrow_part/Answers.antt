use Rattle.ledger_acts.specs.Movements.{escrow_rows}
use Rattle.ledger_acts.proofs.PartReads.{made_of}
use Rattle.ledger_acts.proofs.part_rows.read_escrow_part.Goals as goal

pub returns : goal.returns
returns g c =
    let before = g.K.Keeper.known c.args.keeper.now in
    let after = g.K.Keeper.known c.read_escrow.new.keeper in
    let read = rw c.in_ok-said.was at c.read_escrow.ensures in
    made_of _ _ _ (escrow_rows c.args.deal.now c.args.party.now c.args.asset.now) before after c.in_ok-said.said c.in_ok-rows.rows c.in_ok-rows.ensures read
