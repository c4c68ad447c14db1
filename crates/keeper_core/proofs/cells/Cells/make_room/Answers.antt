use Rattle.std.proofs.Common.{◌≡◌, ◌<◌, length, ◌∙◌, arith, rules}
use Rattle.std.specs.FinMap.{from_entries}
use Rattle.std.proofs.lemmas.Result.{on_ok_weaker, on_err_weaker}
use Rattle.keeper_core.specs.Laying.{numbered}
use Rattle.keeper_core.proofs.Numbered.{same_slots_map, after_room, after_same}
use Rattle.keeper_core.proofs.cells.Cells.make_room.Goals as goal

pub returns-in_err-reach-clause-err : goal.returns-in_err-reach-clause-err
returns-in_err-reach-clause-err c =
    let same : from_entries (numbered 0 c.reach.new.tables.items) ≡ c.args.self.now = same_slots_map c.self.inside.tables.items c.reach.new.tables.items c.reach.ensures.same ∙ c.self.view_is in
    search (rules, same)

pub returns-clause-ok : goal.returns-clause-ok
returns-clause-ok c =
    let same = same_slots_map c.self.inside.tables.items c.reach.new.tables.items c.reach.ensures.same ∙ c.self.view_is in
    let reached = c.in_ok-reach.ensures.reached in
    let lt : c.from-place.result < length c.reach.new.tables.items = omega (arith, c.reach.new.tables.ok.0, reached) in
    on_ok_weaker c.make_room.result (after_room c.reach.new.tables.items c.args.self.now c.args.tab c.from-place.result c.args.key.now c.index_mut-table.result.now same c.from-place.ensures lt c.index_mut-table.ensures.value c.make_room.new.self) c.make_room.ensures.ok

pub returns-clause-err : goal.returns-clause-err
returns-clause-err c =
    let same = same_slots_map c.self.inside.tables.items c.reach.new.tables.items c.reach.ensures.same ∙ c.self.view_is in
    let reached = c.in_ok-reach.ensures.reached in
    let lt : c.from-place.result < length c.reach.new.tables.items = omega (arith, c.reach.new.tables.ok.0, reached) in
    on_err_weaker c.make_room.result (after_same c.reach.new.tables.items c.args.self.now c.args.tab c.from-place.result c.args.key.now c.index_mut-table.result.now same c.from-place.ensures lt c.index_mut-table.ensures.value c.make_room.new.self) c.make_room.ensures.err
