use Rattle.deal_log.proofs.ReadTexts.{remove_bytes}
use Rattle.deal_log.proofs.deal_texts.DealTexts.remove.Goals as goal

pub returns : goal.returns
returns c = remove_bytes c.args.deal.now c.self.inside.by_deal c.remove.new.self c.args.self.now c.remove.ensures.updates c.self.view_is
