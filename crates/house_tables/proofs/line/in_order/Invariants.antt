use Rattle.std.proofs.Common.{◌≡◌}
use Rattle.house_tables.specs.Lines.{in_order}
use Rattle.house_tables.proofs.line.in_order.Given as goal

abbrev pub invariant-loop-line : goal.invariant-loop-line
invariant-loop-line l = l.ascending.keys ≡ in_order l.yielded
