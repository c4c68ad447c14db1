use Rattle.std.proofs.Common.{string_bytes, arith}
use Rattle.plain_core.specs.Tables.{deal_text}
use Rattle.plain_core.proofs.Appending.{appended_item}
use Rattle.plain_core.proofs.tables.write_deals.Goals as goal

pub loop-deal-preserved : goal.loop-deal-preserved
loop-deal-preserved c =
    appended_item (deal_text c.args.declarations.now c.args.book.now c.args.assets.now) (string_bytes c.write_deal.new.out) (string_bytes c.loop-deal.out) (string_bytes c.args.out.now) c.args.deals.now c.loop-deal.deal-index c.deal-item.result (omega arith) c.deal-item.is c.loop-deal.invariant c.in_ok-write_deal.ensures
