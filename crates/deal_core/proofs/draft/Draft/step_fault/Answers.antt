use Rattle.deal_core.proofs.draft.Draft.step_fault.Goals as goal

pub exceeds-requires : goal.exceeds-requires
exceeds-requires c = rw c.as_slice-steps.ensures.value (c.self.invariant.totals _ _)
