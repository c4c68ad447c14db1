use Rattle.std.proofs.Common.{◌+◌, ◌-◌, drop, length, string_bytes, ap, arith}
use Rattle.escrow_book.specs.Base.{greatest_turn}
use Rattle.plain_core.specs.Starts.{started_world}
use Rattle.plain_core.specs.Reports.{run_from}
use Rattle.plain_core.proofs.Within.{within_more}
use Rattle.plain_core.proofs.Runs.{run_starts, run_on, next_event, happened_within}
use Rattle.plain_core.proofs.rehearsal.run.Goals as goal

pub loop-happened-init : goal.loop-happened-init
loop-happened-init c = run_starts c.args.script.now.declarations (string_bytes c.args.out.now) c.in_ok-world.world c.args.script.now.events c.requires.empty c.in_ok-world.ensures

pub happen-requires : goal.happen-requires
happen-requires c = within_more c.loop-happened.happened-index (greatest_turn - 1) c.loop-happened.world.ledgers (omega (arith, c.requires.few, ap length c.as_slice-happened-items.ensures)) c.loop-happened.invariant.1

pub loop-happened-preserved : goal.loop-happened-preserved
loop-happened-preserved c = (
  run_on c.args.script.now.declarations (string_bytes c.loop-happened.out) (string_bytes c.happen.new.out) c.loop-happened.world c.happen.new.world c.happened-item.result
      (drop c.loop-happened.happened-index c.args.script.now.events) (drop (c.loop-happened.happened-index + 1) c.args.script.now.events)
      (run_from c.args.script.now.declarations (started_world c.args.script.now.declarations) c.args.script.now.events)
      (next_event c.as_slice-happened-items.result.now c.args.script.now.events c.loop-happened.happened-index c.happened-item.result c.as_slice-happened-items.ensures (omega arith) c.happened-item.is)
      c.loop-happened.invariant.0 c.in_ok-happen.ensures,
  happened_within c.args.script.now.declarations (string_bytes c.loop-happened.out) (string_bytes c.happen.new.out) c.loop-happened.world c.happen.new.world c.happened-item.result c.loop-happened.happened-index c.loop-happened.invariant.1 c.in_ok-happen.ensures,
)
