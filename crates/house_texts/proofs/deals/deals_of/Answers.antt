use Rattle.std.proofs.Common.{sym, ◌∙◌, arith}
use Rattle.std.proofs.lemmas.Grind.{common_steps}
use Rattle.house_texts.specs.Deals.{deal_by}
use Rattle.house_texts.proofs.Picking.{picks_more, picks_none}
use Rattle.house_texts.proofs.deals.deals_of.Goals as goal
use Rattle.house_texts.proofs.deals.deals_of.Goals.{in-Some+in_ok-push, in_default}

pub loop-declaration-preserved : goal.loop-declaration-preserved
loop-declaration-preserved c =
    elim c.match-branch-2.branch [
      | in-Some+in_ok-push w ↦ picks_more (deal_by c.args.declarations.now c.args.holders.now c.args.house.now) c.args.declarations.now c.loop-declaration.declaration-index c.declaration-item.result w.in-Some.deal c.loop-declaration.deals.items c.match-branch-2.deals.items (omega arith) c.declaration-item.is c.loop-declaration.invariant (sym c.in_ok-deal.ensures ∙ w.in-Some.is) (grind (arith, common_steps))
      | in_default w ↦ rw w.deals-is (picks_none (deal_by c.args.declarations.now c.args.holders.now c.args.house.now) c.args.declarations.now c.loop-declaration.declaration-index c.declaration-item.result c.loop-declaration.deals.items (omega arith) c.declaration-item.is c.loop-declaration.invariant (sym c.in_ok-deal.ensures ∙ w.in_default.is))
    ]
