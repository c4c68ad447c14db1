use Rattle.std.proofs.Common.{◌≡◌, ◌++◌, take, string_bytes}
use Rattle.plain_core.specs.Tables.{rows_text}
use Rattle.plain_core.proofs.tables.Rows.write_all.Given as goal

abbrev pub invariant-loop-asset : goal.invariant-loop-asset
invariant-loop-asset l = string_bytes l.out ≡ string_bytes l.fn.out ++ rows_text l.self l.book (take l.asset-index l.assets) l.parties
