use Rattle.std.proofs.Common.{length, ap, sym, ◌∙◌}
use Rattle.deal_log.specs.DealTexts.{parties_in}
use Rattle.deal_log.proofs.ReadTexts.{parties_read}
use Rattle.deal_log.proofs.deal_text.DealText.parties.Goals as goal

pub returns-clause-value : goal.returns-clause-value
returns-clause-value c =
    ap length (c.parties.ensures.value ∙ (sym (parties_read c.self.inside.text c.self.inside.deal c.self.invariant) ∙ ap parties_in c.self.view_is))
