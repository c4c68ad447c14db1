use Rattle.std.proofs.Common.{sym, ◌∙◌, arith}
use Rattle.std.proofs.lemmas.Grind.{common_steps}
use Rattle.house_holders.specs.Holders.{holder_by}
use Rattle.house_holders.proofs.Picking.{picks_more, picks_none}
use Rattle.house_holders.proofs.holders.Holders.of.Goals as goal
use Rattle.house_holders.proofs.holders.Holders.of.Goals.{in-Some+in_ok-push, in_default}

pub loop-declaration-preserved : goal.loop-declaration-preserved
loop-declaration-preserved c =
    elim c.match-branch-2.branch [
      | in-Some+in_ok-push w ↦ picks_more holder_by c.args.declarations.now c.loop-declaration.declaration-index c.declaration-item.result w.in-Some.holder c.loop-declaration.listed.items c.match-branch-2.listed.items (omega arith) c.declaration-item.is c.loop-declaration.invariant (sym c.in_ok-holder.ensures ∙ w.in-Some.is) (grind (arith, common_steps))
      | in_default w ↦ rw w.listed-is (picks_none holder_by c.args.declarations.now c.loop-declaration.declaration-index c.declaration-item.result c.loop-declaration.listed.items (omega arith) c.declaration-item.is c.loop-declaration.invariant (sym c.in_ok-holder.ensures ∙ w.in_default.is))
    ]
