use Rattle.std.proofs.Common.{List, ℕ, ap, ◌∙◌}
use Rattle.std.specs.FinMap.{contains_key, insert, remove}
use Rattle.keeper_core.specs.Slots.{Slots, filled}
use Rattle.keeper_core.proofs.Filled.{filled_put, filled_clear}
use Rattle.keeper_core.proofs.Changing.{keeps_insert, keeps_clear}
use Rattle.keeper_core.proofs.cells.Cells.make.Goals as goal

pub returns-in-Put-clause-made : goal.returns-in-Put-clause-made
returns-in-Put-clause-made c =
    rw c.in-Put.is (ap filled c.set.ensures ∙ filled_put c.args.self.now (c.in-Put.tab, c.as_slice.result.now) c.into_vec.result.items
    ∙ ap (λ (key : List ℕ). insert (filled c.args.self.now) (c.in-Put.tab, key) c.into_vec.result.items) c.as_slice.ensures
    ∙ ap (λ (val : List ℕ). insert (filled c.args.self.now) (c.in-Put.tab, c.in-Put.key) val) c.into_vec.ensures)

pub returns-in-Put-clause-keeps : goal.returns-in-Put-clause-keeps
returns-in-Put-clause-keeps c = λ cell has. ap (λ (s : Slots). contains_key s cell) c.set.ensures ∙ keeps_insert c.args.self.now _ _ cell has

pub returns-in-Delete-clause-made : goal.returns-in-Delete-clause-made
returns-in-Delete-clause-made c =
    rw c.in-Delete.is (ap filled c.clear.ensures ∙ filled_clear c.args.self.now (c.in-Delete.tab, c.as_slice-in-Delete.result.now)
    ∙ ap (λ (key : List ℕ). remove (filled c.args.self.now) (c.in-Delete.tab, key)) c.as_slice-in-Delete.ensures)

pub returns-in-Delete-clause-keeps : goal.returns-in-Delete-clause-keeps
returns-in-Delete-clause-keeps c = λ cell has. ap (λ (s : Slots). contains_key s cell) c.clear.ensures ∙ keeps_clear c.args.self.now _ cell has
