use Rattle.std.proofs.Common.{◌≤◌, ℕ, List, length, sym, subst}
use Rattle.joined_deals.specs.TextSizes.{most_text}
use Rattle.joined_deals.proofs.Short.{short_transfer}
use Rattle.joined_deals.proofs.deal_texts.transfer_text.Goals as goal

pub returns-clause-short : goal.returns-clause-short
returns-clause-short c =
    let text = rw c.in_ok-made.was at c.write_act.ensures in
    subst (λ (t : List ℕ). length t ≤ most_text) (sym text) (short_transfer c.args.ledger c.args.asset c.named.ensures c.named-2.ensures c.args.deal c.args.to c.args.turn c.args.amount c.wide.ensures c.wide-2.ensures)
