use Rattle.std.proofs.Common.{◌∙◌}
use Rattle.keeper_core.proofs.Bare.{has_found}
use Rattle.keeper_core.proofs.table.Table.has_slot.Goals as goal

pub returns : goal.returns
returns c = c.contains_key.ensures ∙ has_found c.args.key.now c.self.inside.slots.entries c.args.self.now c.self.view_is
