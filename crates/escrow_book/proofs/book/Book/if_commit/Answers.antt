use Rattle.std.proofs.Common.{◌≡◌, ◌-◌, ◌≤◌, ap, ◌∙◌, arith}
use Rattle.escrow_book.specs.History.{History, if_commit_of, deal_came, deal_went}
use Rattle.escrow_book.proofs.Steps.{base_of}
use Rattle.escrow_book.proofs.Reading.{all_changes, is_grown, deal_read}
use Rattle.escrow_book.proofs.Bounds.{if_commit_within}
use Rattle.escrow_book.proofs.Cut.{nothing_is_cut}
use Rattle.escrow_book.proofs.book.Book.if_commit.Goals as goal

-- what the loop has added up
sums : (c : goal.After-loop-entry) → (c.loop-entry.came ≡ deal_came c.args.self.now c.args.deal.now c.args.party.now c.args.asset.now) × (c.loop-entry.went ≡ deal_went c.args.self.now c.args.deal.now c.args.party.now c.args.asset.now)
sums c =
    let whole = deal_read c.args.self.now c.deref-entry-items.result.now c.loop-entry.entry-index c.args.deal.now c.args.party.now c.args.asset.now (all_changes _ _ c.args.self.now c.self.view_is _ c.deref-entry-items.ensures.value) c.loop-entry-test.false in
    (c.loop-entry.invariant.came ∙ whole.0, c.loop-entry.invariant.went ∙ whole.1)

difference : (c : goal.After-loop-entry) → c.loop-entry.came - c.loop-entry.went ≡ if_commit_of c.args.self.now c.args.deal.now c.args.party.now c.args.asset.now
difference c = ap (λ n. n - c.loop-entry.went) (sums c).0 ∙ ap (λ n. deal_came c.args.self.now c.args.deal.now c.args.party.now c.args.asset.now - n) (sums c).1

pub overflow_sub-result : goal.overflow_sub-result
overflow_sub-result c =
    let h : History = c.args.self.now in
    let within : deal_went h c.args.deal.now c.args.party.now c.args.asset.now ≤ deal_came h c.args.deal.now c.args.party.now c.args.asset.now = (nothing_is_cut (base_of h) h.changes (is_grown _ h c.self.view_is c.self.invariant.grown)).in_deals c.args.deal.now c.args.party.now c.args.asset.now in
    omega (arith, (sums c).0, (sums c).1)

pub overflow_cast-result : goal.overflow_cast-result
overflow_cast-result c =
    let h : History = c.args.self.now in
    let within : if_commit_of h c.args.deal.now c.args.party.now c.args.asset.now ≤ 18446744073709551615 = if_commit_within (base_of h) h.changes (is_grown _ h c.self.view_is c.self.invariant.grown) c.args.deal.now c.args.party.now c.args.asset.now in
    omega (arith, difference c)

pub returns : goal.returns
returns c = difference c
