use Rattle.std.proofs.Common.{ap, sym, ◌∙◌}
use Rattle.keeper_core.specs.Slots.{held, TableSlots}
use Rattle.std.specs.FinMap.{get}
use Rattle.keeper_core.proofs.Bare.{held_after_prune}
use Rattle.keeper_core.proofs.table.Table.prune.Goals as goal

pub returns-in-Some-None : goal.returns-in-Some-None
returns-in-Some-None c = λ k.
    let empty = rw (c.in-Some-None.is, c.in-Some-None.field-0-is) at c.get.ensures.value in
    held_after_prune c.args.key.now c.self.inside.slots c.remove.new.self c.remove.ensures.updates (sym empty) k ∙ ap (λ (s : TableSlots). held (get s k)) c.self.view_is
