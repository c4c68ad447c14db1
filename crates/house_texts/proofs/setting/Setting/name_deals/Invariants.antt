use Rattle.std.proofs.Common.{◌≡◌, ◌++◌, take}
use Rattle.house_texts.specs.Settings.{deal_entries}
use Rattle.house_texts.proofs.setting.Setting.name_deals.Given as goal

abbrev pub invariant-loop-deal : goal.invariant-loop-deal
invariant-loop-deal l = l.directory ≡ l.fn.directory ++ deal_entries (take l.deal-index l.self.deals)
