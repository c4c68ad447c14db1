use Rattle.std.proofs.Common.{◌≡◌, ◌++◌, true, length}
use Rattle.std.specs.List.{list_all}
use Rattle.dh_base.specs.Names.{is_name}
use Rattle.script_lines.proofs.words.names.Given as goal

abbrev pub invariant-loop-words : goal.invariant-loop-words
invariant-loop-words l = record { whole : l.names.items ++ l.words ≡ l.fn.words; names : list_all is_name l.names.items ≡ true }

abbrev pub decreases-loop-words : goal.decreases-loop-words
decreases-loop-words l = length l.words
