use Rattle.std.specs.Fmt.{HasWritten, IsPlainFormatter}
use Rattle.dh_base.specs.Refusals.{refusal_front}
use Rattle.dh_base.proofs.refusal.write_refusal.Given as goal

abbrev pub invariant-loop-place : goal.invariant-loop-place
invariant-loop-place g l =
    IsPlainFormatter l.fn.f → HasWritten g.W.Write.write_str_gives l.fn.f (refusal_front l.place (g.R.Refusal.told l.refusal)) l.f
