use Rattle.std.proofs.Common.{◌≡◌, drop, string_bytes}
use Rattle.plain_core.specs.Given.{AreWithin}
use Rattle.plain_core.specs.Starts.{started_world}
use Rattle.plain_core.specs.Reports.{run_from, told_behind}
use Rattle.plain_core.proofs.rehearsal.run.Given as goal

abbrev pub invariant-loop-happened : goal.invariant-loop-happened
invariant-loop-happened l =
    (told_behind (string_bytes l.out) (run_from l.script.declarations l.world (drop l.happened-index l.script.events)) ≡ run_from l.script.declarations (started_world l.script.declarations) l.script.events)
    × AreWithin l.happened-index l.world.ledgers
