use Rattle.std.proofs.Common.{◌≡◌, ◌++◌, take, string_bytes}
use Rattle.std.specs.List.{flat_map}
use Rattle.plain_core.specs.Tables.{deal_text}
use Rattle.plain_core.proofs.tables.write_deals.Given as goal

abbrev pub invariant-loop-deal : goal.invariant-loop-deal
invariant-loop-deal l = string_bytes l.out ≡ string_bytes l.fn.out ++ flat_map (deal_text l.declarations l.book l.assets) (take l.deal-index l.deals)
