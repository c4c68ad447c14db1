use Rattle.std.proofs.Common.{ap, sym, ◌∙◌}
use Rattle.deal_log.specs.DealTexts.{TextMap, text_of}
use Rattle.deal_log.proofs.ReadTexts.{get_bytes}
use Rattle.deal_log.proofs.deal_texts.DealTexts.get.Goals as goal

pub returns : goal.returns
returns c =
    c.get.ensures.value ∙ (sym (get_bytes c.args.deal.now.0 c.self.inside.by_deal.entries) ∙ ap (λ (t : TextMap). text_of t c.args.deal.now) c.self.view_is)
