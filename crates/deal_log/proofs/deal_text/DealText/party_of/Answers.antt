use Rattle.std.proofs.Common.{List, ap, sym, ◌∙◌}
use Rattle.deal_core.specs.declared.party.Party.{Party}
use Rattle.deal_core.specs.Deals.{index_of_account}
use Rattle.deal_log.specs.DealTexts.{parties_in}
use Rattle.deal_log.proofs.ReadTexts.{parties_read}
use Rattle.deal_log.proofs.deal_text.DealText.party_of.Goals as goal

pub returns-clause-value : goal.returns-clause-value
returns-clause-value c =
    c.party_of.ensures.value
    ∙ ap (λ (ps : List Party). index_of_account ps c.args.account.now) (sym (parties_read c.self.inside.text c.self.inside.deal c.self.invariant) ∙ ap parties_in c.self.view_is)
