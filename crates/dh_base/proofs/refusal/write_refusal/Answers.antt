use Rattle.std.proofs.Common.{ap}
use Rattle.std.specs.Result.{is_ok}
use Rattle.dh_base.specs.Refusals.{telling_told}
use Rattle.dh_base.proofs.Writing.{front_more, front_none}
use Rattle.dh_base.proofs.refusal.write_refusal.Goals as goal
use Rattle.dh_base.proofs.refusal.write_refusal.Goals.{in-Some-next+in_ok-write-2, in_default-next}

pub loop-place-preserved : goal.loop-place-preserved
loop-place-preserved g c = λ p.
    let tolds = g.R.Refusal.told c.args.refusal.now in
    let so_far = c.loop-place.invariant p in
    elim c.match-next.branch [
      | in-Some-next+in_ok-write-2 w ↦
          rw w.f-is (front_more _ _ _ _ tolds c.loop-place.place (telling_told w.in-Some-next.held) w.in-Some-next.ensures so_far (w.write-in-Some-next.ensures.writes so_far.plain (ap is_ok w.in_ok-write-2.was)))
      | in_default-next w ↦ rw w.f-is (front_none _ _ _ tolds c.loop-place.place w.in_default-next.ensures so_far)
    ]
