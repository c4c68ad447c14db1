use Rattle.std.proofs.Common.{◌≡◌, take}
use Rattle.std.specs.List.{filter_map}
use Rattle.house_texts.specs.Deals.{deal_by}
use Rattle.house_texts.proofs.deals.deals_of.Given as goal

abbrev pub invariant-loop-declaration : goal.invariant-loop-declaration
invariant-loop-declaration l = l.deals.items ≡ filter_map (deal_by l.declarations l.holders l.house) (take l.declaration-index l.declarations)
