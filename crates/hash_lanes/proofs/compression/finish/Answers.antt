use Rattle.std.proofs.Common.{ap, ◌≡◌, ◌*◌, length, arith}
use Rattle.sha2.specs.Sha256.{add_state, compress}
use Rattle.sha2.proofs.Schedule256.{IsRoundsAt_at, IsWindow_first}
use Rattle.hash_lanes.specs.Lanes.{lane, words}
use Rattle.hash_lanes.proofs.Windows.{length-words}
use Rattle.hash_lanes.proofs.compression.finish.Goals as goal

pub schedule-init : goal.schedule-init
schedule-init c j b lt first five =
    let h = lane j c.args.state in
    let long : length (words j c.args.first) ≡ 16 = omega (arith, length-words j c.args.first) in
    let window = IsWindow_first b (words j c.args.first) long first in
    let s6 = c.first_step-v.ensures j b h lt window five in
    let s10 = c.first_four_steps-v.ensures j b h lt window s6 in
    let s14 = c.first_four_steps-v-2.ensures j b h lt window s10 in
    let s15 = c.first_step-v-2.ensures j b h lt window s14 in
    (window, c.first_step-v-3.ensures j b h lt window s15)

pub schedule-preserved : goal.schedule-preserved
schedule-preserved c j b lt first five =
    let h = lane j c.args.state in
    let s4 = c.four_steps-v.ensures j b h lt (IsRoundsAt_at b h _ _ _ _ (omega arith) (c.schedule.invariant j b lt first five)) in
    let s8 = c.four_steps-v-in-schedule.ensures j b h lt s4 in
    let s12 = c.four_steps-v-in-schedule-2.ensures j b h lt s8 in
    let s16 = c.four_steps-v-in-schedule-3.ensures j b h lt s12 in
    IsRoundsAt_at b h _ _ _ _ (omega arith) s16

pub returns : goal.returns
unfolding compress
returns c j b lt first five =
    let done : 16 * c.schedule.turn ≡ 64 = omega (arith, c.schedule.auto.turn-end (omega arith)) in
    let h = lane j c.args.state in
    let held = rw done at (c.schedule.invariant j b lt first five).1 in
    rw (
      c.add.ensures j lt,
      c.add-2.ensures j lt,
      c.add-3.ensures j lt,
      c.add-4.ensures j lt,
      c.add-5.ensures j lt,
      c.add-6.ensures j lt,
      c.add-7.ensures j lt,
      c.add-8.ensures j lt,
    )
    (ap (add_state h) held)
