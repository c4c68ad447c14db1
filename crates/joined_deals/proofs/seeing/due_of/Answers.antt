use Rattle.std.proofs.Common.{ℕ, ap, ◌∙◌}
use Rattle.deal_core.specs.Deals.{DealTold}
use Rattle.clear_core.specs.Clearing.{due_of}
use Rattle.joined_deals.proofs.seeing.due_of.Goals as goal

pub returns : goal.returns
returns c =
    c.due.ensures.value
    ∙ (ap (λ (d : DealTold). due_of d.steps c.index.result c.args.pair.now.ledger c.args.pair.now.asset) c.deal.ensures.value
    ∙ ap (λ (p : ℕ). due_of c.args.joined.now.deal.steps p c.args.pair.now.ledger c.args.pair.now.asset) c.index.ensures)
