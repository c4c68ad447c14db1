use Rattle.std.proofs.Common.{◌≡◌, map, take}
use Rattle.plain_script.specs.Ids.{plain_id}
use Rattle.plain_script.proofs.ids.plain_ids.Given as goal

abbrev pub invariant-loop-name : goal.invariant-loop-name
invariant-loop-name l = l.ids.items ≡ map plain_id (take l.name-index l.names)
