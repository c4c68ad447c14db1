use Rattle.std.proofs.Common.{refl, sym, ap, ◌∙◌}
use Rattle.house_deals.specs.Connected.{one_round, after_rounds, first_mark}
use Rattle.house_deals.proofs.Reached.{round_next}
use Rattle.house_deals.proofs.connected.marks.Goals as goal

pub loop-round-init : goal.loop-round-init
unfolding after_rounds first_mark
loop-round-init c = refl

pub loop-round-preserved : goal.loop-round-preserved
loop-round-preserved c =
    c.spread.ensures ∙ (ap (one_round c.args.way c.args.steps.now) c.loop-round.invariant ∙ sym (round_next c.args.way c.args.steps.now c.loop-round._round first_mark))
