use Rattle.std.proofs.Common.{sym, subst}
use Rattle.escrow_book.specs.History.{History}
use Rattle.escrow_book.specs.Reached.{IsAccepted}
use Rattle.escrow_book.specs.Kept.{base_kept, history_kept}
use Rattle.escrow_book.proofs.Keeping.{kept_longer, kept_by_others}
use Rattle.escrow_book.proofs.book.Book.append.Goals as goal

pub invariant_of-self-2 : goal.invariant_of-self-2
invariant_of-self-2 c =
    let accepted : IsAccepted (history_kept (base_kept c.self.inside.rows.items c.self.inside.deals_before.items c.self.inside.holds_before.items c.self.inside.moves_before.items) c.self.inside.entries.items) c.args.change = subst (λ (h : History). IsAccepted h c.args.change) (sym c.self.view_is) c.requires.accepted in
    let kept = kept_by_others (history_kept (base_kept c.self.inside.rows.items c.self.inside.deals_before.items c.self.inside.holds_before.items c.self.inside.moves_before.items) c.self.inside.entries.items) c.self.inside.entries.items c.self.inside.deals.items c.args.change c.self.invariant accepted c.requires.deals in
    rw (c.in_ok-push.ensures.items, kept_longer (base_kept c.self.inside.rows.items c.self.inside.deals_before.items c.self.inside.holds_before.items c.self.inside.moves_before.items) c.self.inside.entries.items c.args.change) kept
