use Rattle.std.proofs.Common.{◌≡◌, take, map}
use Rattle.house_tables.specs.Printing.{deal_text}
use Rattle.house_tables.proofs.printing.deal_texts.Given as goal

abbrev pub invariant-loop-deal : goal.invariant-loop-deal
invariant-loop-deal l = l.lines.items ≡ map (deal_text l.directory l.holds) (take l.deal-index l.deals)
