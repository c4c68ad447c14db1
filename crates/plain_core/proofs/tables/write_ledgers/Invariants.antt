use Rattle.std.proofs.Common.{◌≡◌, ◌++◌, take, string_bytes}
use Rattle.std.specs.List.{flat_map}
use Rattle.plain_core.specs.Tables.{named_text}
use Rattle.plain_core.proofs.tables.write_ledgers.Given as goal

abbrev pub invariant-loop-name : goal.invariant-loop-name
invariant-loop-name l = string_bytes l.out ≡ string_bytes l.fn.out ++ flat_map (named_text l.declarations l.ledgers) (take l.name-index l.names)
