use Rattle.std.proofs.Common.{◌++◌, ◌∷◌, [], List, ap, ◌∙◌}
use Rattle.keeper_core.specs.Slots.{TableSlots}
use Rattle.keeper_core.specs.Laying.{slot_in}
use Rattle.keeper_core.proofs.Numbered.{slot_in-push_empty}
use Rattle.keeper_core.proofs.cells.reach.Goals as goal

pub loop-alloc-preserved : goal.loop-alloc-preserved
loop-alloc-preserved c = λ tab key.
    ap (λ (tables : List TableSlots). slot_in tables tab key) c.in_ok-push.ensures.items
    ∙ ap (λ (slots : TableSlots). slot_in (c.loop-alloc.tables.items ++ slots ∷ []) tab key) c.new.ensures
    ∙ slot_in-push_empty c.loop-alloc.tables.items tab key ∙ c.loop-alloc.invariant tab key
