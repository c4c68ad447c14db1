use Rattle.std.proofs.Common.{Some, ap, sym, ◌∙◌}
use Rattle.deal_core.specs.Deals.{DealTold}
use Rattle.deal_log.proofs.ReadTexts.{house_read}
use Rattle.deal_log.proofs.deal_text.DealText.house.Goals as goal

pub returns : goal.returns
returns c = house_read c.args.self.now c.deal.result.now c.deal.ensures ∙ ap (λ (d : DealTold). Some d.house) (sym c.behind-self.view_is)
