use Rattle.std.proofs.Common.{refl, sym, arith}
use Rattle.sha2.proofs.Schedule256.{rounds_first}
use Rattle.hash_lanes.specs.Lanes.{lane, words}
use Rattle.hash_lanes.proofs.Windows.{words_at}
use Rattle.hash_lanes.proofs.compression.first_step.Goals as goal

pub returns : goal.returns
returns c j b h lt window held =
    rounds_first b h (words j c.args.w.now) (lane j c.args.v) c.args.t _ _ _ c.requires window held refl
    (sym (words_at j c.args.w.now c.args.t (omega arith))) (c.round.ensures j lt)
