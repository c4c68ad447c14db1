use Rattle.std.proofs.Common.{◌≡◌, ◌++◌, take}
use Rattle.std.specs.Prelude.{string_bytes}
use Rattle.clear_core.specs.Summaries.{entries_text}
use Rattle.clear_core.proofs.summary.write_entries.Given as goal

abbrev pub invariant-loop-pair : goal.invariant-loop-pair
invariant-loop-pair l = string_bytes l.out ≡ string_bytes l.fn.out ++ entries_text l.deal (take l.pair-index l.pairs) l.from l.to
