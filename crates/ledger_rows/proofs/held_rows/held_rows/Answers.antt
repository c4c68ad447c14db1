use Rattle.std.proofs.Common.{◌∙◌}
use Rattle.std.specs.Map.Iter.{deref_pair}
use Rattle.std.proofs.lemmas.Map.Iter.{rest_all}
use Rattle.ledger_rows.specs.Scanning.{listed}
use Rattle.ledger_rows.proofs.HeldRows.{all_made, amounts_listed}
use Rattle.ledger_rows.proofs.held_rows.held_rows.Goals as goal

pub returns : goal.returns
returns c =
    let gives = c.into_iter-asset-iterator.ensures.into_iter_gives in
    let none = rest_all deref_pair _ _ _ c.in-None.is c.next.ensures.steps in
    let made = all_made c.loop-asset.held.items c.loop-asset.asset-iterator c.into_iter-asset-iterator.result c.in_ok-amounts.amounts.entries c.loop-asset.invariant none gives.0 in
    amounts_listed (listed c.args.front.now c.args.rows.now) c.in_ok-amounts.amounts c.from_vec.result gives.5 (rw c.in_ok-amounts.was at c.amounts_of.ensures) (c.from_vec.ensures ∙ made)
