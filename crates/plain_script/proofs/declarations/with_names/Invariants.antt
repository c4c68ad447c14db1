use Rattle.std.proofs.Common.{◌≡◌, take}
use Rattle.plain_script.specs.BoundNames.{with_names}
use Rattle.plain_script.proofs.declarations.with_names.Given as goal

abbrev pub invariant-loop-name : goal.invariant-loop-name
invariant-loop-name l = l.names.keys ≡ with_names l.fn.names.keys (take l.name-index l.further)
