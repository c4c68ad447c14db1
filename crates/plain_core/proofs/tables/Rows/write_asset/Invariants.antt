use Rattle.std.proofs.Common.{◌≡◌, ◌++◌, take, string_bytes}
use Rattle.std.specs.List.{flat_map}
use Rattle.plain_core.specs.Tables.{row_text}
use Rattle.plain_core.proofs.tables.Rows.write_asset.Given as goal

abbrev pub invariant-loop-party : goal.invariant-loop-party
invariant-loop-party l = string_bytes l.out ≡ string_bytes l.fn.out ++ flat_map (row_text l.self l.book l.asset) (take l.party-index l.parties)
