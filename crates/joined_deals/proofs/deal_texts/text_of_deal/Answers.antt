use Rattle.std.proofs.Common.{◌≤◌, ℕ, List, length, sym, subst}
use Rattle.joined_deals.specs.TextSizes.{most_deal_text}
use Rattle.joined_deals.proofs.Short.{short_deal}
use Rattle.joined_deals.proofs.deal_texts.text_of_deal.Goals as goal

pub returns-clause-short : goal.returns-clause-short
returns-clause-short c =
    let text = rw c.in_ok-text.was at c.write_deal.ensures in
    subst (λ (t : List ℕ). length t ≤ most_deal_text) (sym text) (short_deal c.args.deal.now c.kept.ensures c.deal_named.ensures)
