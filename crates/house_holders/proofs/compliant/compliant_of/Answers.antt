use Rattle.std.proofs.Common.{sym, ◌∙◌, arith}
use Rattle.std.proofs.lemmas.Grind.{common_steps}
use Rattle.house_holders.specs.Compliant.{compliant_by}
use Rattle.house_holders.proofs.Picking.{picks_more, picks_none}
use Rattle.house_holders.proofs.compliant.compliant_of.Goals as goal
use Rattle.house_holders.proofs.compliant.compliant_of.Goals.{in-Some+in_ok-push, in_default}

pub loop-holder-preserved : goal.loop-holder-preserved
loop-holder-preserved c =
    elim c.match-compliant_by.branch [
      | in-Some+in_ok-push w ↦ picks_more compliant_by c.args.holders.now c.loop-holder.holder-index c.holder-item.result w.in-Some.found c.loop-holder.compliant.items c.match-compliant_by.compliant.items (omega arith) c.holder-item.is c.loop-holder.invariant (sym c.compliant_by.ensures ∙ w.in-Some.is) (grind (arith, common_steps))
      | in_default w ↦ rw w.compliant-is (picks_none compliant_by c.args.holders.now c.loop-holder.holder-index c.holder-item.result c.loop-holder.compliant.items (omega arith) c.holder-item.is c.loop-holder.invariant (sym c.compliant_by.ensures ∙ w.in_default.is))
    ]
