use Rattle.std.proofs.Common.{List, ℕ, ap, ◌∙◌}
use Rattle.std.specs.FinMap.{contains_key}
use Rattle.std.proofs.lemmas.Result.{on_ok_weaker}
use Rattle.keeper_core.specs.Slots.{Slots, with_room}
use Rattle.keeper_core.proofs.Changing.{room_for, keeps_room_made, filled_room_made}
use Rattle.keeper_core.proofs.cells.Cells.make_room_for.Goals as goal

pub returns-in-Put-clause-ok : goal.returns-in-Put-clause-ok
returns-in-Put-clause-ok c =
    rw c.in-Put.is (on_ok_weaker c.make_room.result (λ made.
    ap (λ (s : Slots). contains_key s (c.in-Put.tab, c.in-Put.key)) made
    ∙ ap (λ (key : List ℕ). contains_key (with_room c.args.self.now (c.in-Put.tab, key)) (c.in-Put.tab, c.in-Put.key)) c.as_slice.ensures
    ∙ room_for c.args.self.now (c.in-Put.tab, c.in-Put.key)) c.make_room.ensures.ok)

pub returns-in-Put-clause-keeps : goal.returns-in-Put-clause-keeps
returns-in-Put-clause-keeps c = keeps_room_made c.make_room.result c.args.self.now c.make_room.new.self (c.in-Put.tab, c.as_slice.result.now) c.make_room.ensures.ok c.make_room.ensures.err

pub returns-in-Put-clause-same : goal.returns-in-Put-clause-same
returns-in-Put-clause-same c = filled_room_made c.make_room.result c.args.self.now c.make_room.new.self (c.in-Put.tab, c.as_slice.result.now) c.make_room.ensures.ok c.make_room.ensures.err
