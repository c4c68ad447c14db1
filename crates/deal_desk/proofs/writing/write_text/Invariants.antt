use Rattle.std.proofs.Common.{◌≤◌, ◌-◌, length, take}
use Rattle.dh_base.specs.Outside.{Gained}
use Rattle.deal_desk.proofs.writing.write_text.Given as goal

abbrev pub invariant-loop-at : goal.invariant-loop-at
invariant-loop-at g l = record {
  within : l.at ≤ length l.text;
  gained : Gained (g.K.Outside.seen l.fn.output) (take l.at l.text) (g.K.Outside.seen l.output);
}

abbrev pub decreases-loop-at : goal.decreases-loop-at
decreases-loop-at g l = length l.text - l.at
