use Rattle.std.proofs.Common.{◌≤◌, ℕ, List, length, sym, subst}
use Rattle.joined_deals.specs.TextSizes.{most_text}
use Rattle.joined_deals.proofs.Short.{short_vote}
use Rattle.joined_deals.proofs.deal_texts.vote_text.Goals as goal

pub returns-clause-short : goal.returns-clause-short
returns-clause-short c =
    let text = rw c.in_ok-made.was at c.write_act.ensures in
    subst (λ (t : List ℕ). length t ≤ most_text) (sym text) (short_vote c.args.deal c.args.index c.args.choice c.wide.ensures)
