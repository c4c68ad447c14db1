use Rattle.std.proofs.Common.{◌≡◌, ◌++◌}
use Rattle.std.specs.Prelude.{string_bytes}
use Rattle.clear_core.specs.Summaries.{texts_below, entries_text}
use Rattle.clear_core.proofs.summary.write_row.Given as goal

abbrev pub invariant-loop-to : goal.invariant-loop-to
invariant-loop-to l = string_bytes l.out ≡ string_bytes l.fn.out ++ texts_below (entries_text l.deal l.pairs l.from) l.to
