use Rattle.keeper_core.proofs.Changing.{made_more, have_room_kept}
use Rattle.keeper_core.proofs.cells.Cells.make_all.Goals as goal

pub loop-change-preserved : goal.loop-change-preserved
loop-change-preserved c = record {
  made = made_more c.loop-change.yielded c.in-Some.change c.args.self.now c.loop-change.self c.make.new.self c.loop-change.invariant.made c.make.ensures.made;
  room = have_room_kept c.loop-change.self c.make.new.self c.make.ensures.keeps c.args.changes.items c.loop-change.invariant.room;
}
