use Rattle.std.proofs.Common.{◌≡◌, ◌++◌}
use Rattle.std.specs.Prelude.{string_bytes}
use Rattle.clear_core.specs.Summaries.{texts_below, row_text}
use Rattle.clear_core.proofs.summary.write_matrix.Given as goal

abbrev pub invariant-loop-from : goal.invariant-loop-from
invariant-loop-from l = string_bytes l.out ≡ string_bytes l.fn.out ++ texts_below (row_text l.deal l.pairs) l.from
