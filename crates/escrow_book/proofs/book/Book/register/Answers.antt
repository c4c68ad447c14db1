use Rattle.std.proofs.Common.{◌≡◌, ◌++◌, [], ◌∷◌, None, sym, subst, arith}
use Rattle.escrow_book.specs.declared.change.Change.TheVariants.{Registered}
use Rattle.escrow_book.specs.History.{History, parties_of}
use Rattle.escrow_book.specs.Reached.{IsAccepted}
use Rattle.escrow_book.specs.Kept.{base_kept, history_kept}
use Rattle.escrow_book.proofs.Keeping.{entry_of, kept_longer, kept_by_registration}
use Rattle.escrow_book.proofs.book.Book.register.Goals as goal

pub invariant_of-self-2 : goal.invariant_of-self-2
invariant_of-self-2 c =
    let deals : c.push.new.self.items ≡ c.self.inside.deals.items ++ record { deal = c.args.deal.now; parties = c.args.parties.now; outcome = None } ∷ [] = grind arith in
    let entries : c.push-2.new.self.items ≡ c.self.inside.entries.items ++ entry_of (Registered c.args.deal.now c.args.parties.now) ∷ [] = grind arith in
    let new : parties_of c.args.self.now c.args.deal.now ≡ None = grind arith in
    let accepted : IsAccepted (history_kept (base_kept c.self.inside.rows.items c.self.inside.deals_before.items c.self.inside.holds_before.items c.self.inside.moves_before.items) c.self.inside.entries.items) (Registered c.args.deal.now c.args.parties.now) = subst (λ (h : History). IsAccepted h (Registered c.args.deal.now c.args.parties.now)) (sym c.self.view_is) (new, c.requires) in
    let kept = kept_by_registration (history_kept (base_kept c.self.inside.rows.items c.self.inside.deals_before.items c.self.inside.holds_before.items c.self.inside.moves_before.items) c.self.inside.entries.items) c.self.inside.entries.items c.self.inside.deals.items c.args.deal.now c.args.parties.now c.self.invariant accepted in
    rw (deals, entries, kept_longer (base_kept c.self.inside.rows.items c.self.inside.deals_before.items c.self.inside.holds_before.items c.self.inside.moves_before.items) c.self.inside.entries.items (Registered c.args.deal.now c.args.parties.now)) kept
