use Rattle.std.proofs.Common.{◌+◌, ◌/◌, ◌≤◌, ℕ, [], arith, sym, subst}
use Rattle.keeper_core.specs.Leaving.{done}
use Rattle.keeper_core.specs.Stepping.{WhereTold}
use Rattle.keeper_core.proofs.Leaving.{then_any}
use Rattle.ledger_core.specs.Opens.{most_entries, CountsWithin}
use Rattle.ledger_core.proofs.Halving.{next_width, told_above, told_below, told_looked}
use Rattle.ledger_core.proofs.opens.count_entries.Goals as goal
use Rattle.ledger_core.proofs.opens.count_entries.Goals.{then-branch, else-branch}

pub loop-round-preserved : goal.loop-round-preserved
loop-round-preserved g c =
    let begin = g.K.Keeper.known c.args.keeper.now in
    let before = g.K.Keeper.known c.loop-round.keeper in
    let after = g.K.Keeper.known c.has_entry.new.keeper in
    let found = c.in_ok-has_entry.field-0 in
    let count = c.loop-round.count in
    let width = c.loop-round.width in
    let half = width / 2 in
    let so_far = c.loop-round.invariant in
    let has = rw c.in_ok-has_entry.was at c.has_entry.ensures.asks in
    let next = next_width c.loop-round.round width count c.loop-round-test.true so_far.halved so_far.few in
    record {
      halved = next.0;
      few = elim c.if-branch.branch [
        | then-branch w ↦ subst (λ (n : ℕ). n + half ≤ most_entries) (sym w.count-is) (omega (arith, so_far.few, next.2))
        | else-branch w ↦ subst (λ (n : ℕ). n + half ≤ most_entries) (sym w.count-is) (omega (arith, so_far.few, next.2))
      ];
      looks = then_any [] done begin before after so_far.looks has.leaves;
      looked = told_looked begin before after count width half found so_far.looks has next.1 so_far.few next.2 so_far.within c.loop-round.round so_far.looked;
      within = elim c.if-branch.branch [
        | then-branch w ↦ subst (λ (n : ℕ). WhereTold begin after (CountsWithin n (n + half))) (sym w.count-is) (told_above begin before after count width half found so_far.looks has next.1 so_far.few next.2 so_far.within w.if-branch.true)
        | else-branch w ↦ subst (λ (n : ℕ). WhereTold begin after (CountsWithin n (n + half))) (sym w.count-is) (told_below begin before after count width half found so_far.looks has next.1 so_far.few next.2 so_far.within w.if-branch.false)
      ];
    }
