use Rattle.std.proofs.Common.{◌≡◌, ◌+◌, ◌-◌, ◌≤◌, List, ap, sym, ◌∙◌, subst, arith}
use Rattle.std.specs.List.{sum_by}
use Rattle.escrow_book.specs.declared.entry.Entry.{Entry}
use Rattle.dh_base.specs.Amounts.{greatest_amount}
use Rattle.escrow_book.specs.Opening.{opening_of}
use Rattle.escrow_book.specs.History.{History, free_of}
use Rattle.escrow_book.specs.Flow.{gained, lost, carried_out}
use Rattle.escrow_book.specs.Kept.{AreEnded}
use Rattle.escrow_book.proofs.Steps.{base_of}
use Rattle.escrow_book.proofs.Reading.{all_changes, is_grown, flow_read}
use Rattle.escrow_book.proofs.Bounds.{free_within}
use Rattle.escrow_book.proofs.Flows.{gain_of, loss_of, flow_within, flow_is_free}
use Rattle.escrow_book.proofs.book.Book.free.Goals as goal

ends : (c : goal.After-loop-entry) → AreEnded c.args.self.now c.deref-entry-items.result.now
ends c = subst (λ (l : List Entry). AreEnded c.args.self.now l) (sym c.deref-entry-items.ensures.value) (subst (λ (h : History). AreEnded h c.self.inside.entries.items) c.self.view_is c.self.invariant.ends)

-- what the loop has added up
came_is : (c : goal.After-loop-entry) → c.loop-entry.came ≡ opening_of c.args.self.now.opening c.args.account.now c.args.asset.now + sum_by (gain_of c.args.self.now c.args.account.now c.args.asset.now) c.args.self.now.changes
came_is c =
    c.loop-entry.invariant.came ∙ ap (λ n. opening_of c.args.self.now.opening c.args.account.now c.args.asset.now + n) (flow_read (λ ended change. gained ended c.args.account.now c.args.asset.now change + carried_out c.args.self.now.carried c.args.account.now c.args.asset.now change) c.args.self.now c.deref-entry-items.result.now c.loop-entry.entry-index (all_changes _ _ c.args.self.now c.self.view_is _ c.deref-entry-items.ensures.value) (ends c) c.loop-entry-test.false)

went_is : (c : goal.After-loop-entry) → c.loop-entry.went ≡ sum_by (loss_of c.args.self.now c.args.account.now c.args.asset.now) c.args.self.now.changes
went_is c =
    c.loop-entry.invariant.went ∙ flow_read (λ ended change. lost ended c.args.account.now c.args.asset.now change) c.args.self.now c.deref-entry-items.result.now c.loop-entry.entry-index (all_changes _ _ c.args.self.now c.self.view_is _ c.deref-entry-items.ensures.value) (ends c) c.loop-entry-test.false

difference : (c : goal.After-loop-entry) → c.loop-entry.came - c.loop-entry.went ≡ free_of c.args.self.now c.args.account.now c.args.asset.now
difference c =
    let h : History = c.args.self.now in
    ap (λ n. n - c.loop-entry.went) (came_is c) ∙ (ap (λ n. (opening_of h.opening c.args.account.now c.args.asset.now + sum_by (gain_of h c.args.account.now c.args.asset.now) h.changes) - n) (went_is c) ∙ flow_is_free (base_of h) h.changes (is_grown _ h c.self.view_is c.self.invariant.grown) c.args.account.now c.args.asset.now)

pub overflow_sub-result : goal.overflow_sub-result
overflow_sub-result c =
    let h : History = c.args.self.now in
    let within : sum_by (loss_of h c.args.account.now c.args.asset.now) h.changes ≤ opening_of h.opening c.args.account.now c.args.asset.now + sum_by (gain_of h c.args.account.now c.args.asset.now) h.changes = flow_within (base_of h) h.changes (is_grown _ h c.self.view_is c.self.invariant.grown) c.args.account.now c.args.asset.now in
    omega (arith, came_is c, went_is c)

pub overflow_cast-result : goal.overflow_cast-result
overflow_cast-result c =
    let h : History = c.args.self.now in
    let within : free_of h c.args.account.now c.args.asset.now ≤ greatest_amount = free_within (base_of h) h.changes (is_grown _ h c.self.view_is c.self.invariant.grown) c.args.account.now c.args.asset.now in
    omega (arith, difference c)

pub returns : goal.returns
returns c = difference c
