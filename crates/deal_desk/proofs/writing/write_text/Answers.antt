use Rattle.std.proofs.Common.{arith}
use Rattle.deal_desk.proofs.Written.{front_grows}
use Rattle.deal_desk.proofs.writing.write_text.Goals as goal

pub loop-at-preserved : goal.loop-at-preserved
loop-at-preserved g c = record {
  within = omega (arith, c.loop-at.invariant.within, c.in_ok-at.ensures.within);
  gained = front_grows c.args.text.now c.loop-at.at c.in_ok-at.field-0 _ _ _ c.loop-at.invariant.gained c.in_ok-at.ensures.gained;
}
