use Rattle.std.proofs.Common.{◌≡◌, None, [], ◌∷◌, ◌++◌, map, length, take, drop, ap, sym, ◌∙◌, subst}
use Rattle.std.specs.Option.{option_or}
use Rattle.std.proofs.lemmas.List.{length-map}
use Rattle.escrow_book.specs.declared.change.Change.TheVariants.{Settled}
use Rattle.escrow_book.specs.History.{History, with_change}
use Rattle.escrow_book.specs.Refused.{deal_settled, settle_refusal}
use Rattle.escrow_book.specs.Reached.{IsAccepted}
use Rattle.escrow_book.specs.Kept.{with_outcome, with_end, base_kept, history_kept}
use Rattle.escrow_book.proofs.Keeping.{entry_of, kept_settled, kept_by_settlement, written_back}
use Rattle.escrow_book.proofs.book.Book.settle.Goals as goal

deals : (c : goal.After-self-2-1) → take c.self.inside.deals.len (c.note_outcome.new.deals ++ drop (length c.note_outcome.new.deals) c.self.inside.deals.items) ≡ map (with_outcome c.args.deal.now c.args.outcome) c.self.inside.deals.items
deals c =
    let noted : c.note_outcome.new.deals ≡ map (with_outcome c.args.deal.now c.args.outcome) c.self.inside.deals.items = c.note_outcome.ensures ∙ ap (map (with_outcome c.args.deal.now c.args.outcome)) c.as_mut_slice-2.ensures.value in
    written_back c.self.inside.deals.items c.note_outcome.new.deals c.self.inside.deals.len (ap length (sym c.as_mut_slice-2.ensures.value) ∙ c.as_mut_slice-2.ensures.len) (ap length noted ∙ length-map c.self.inside.deals.items (with_outcome c.args.deal.now c.args.outcome)) ∙ noted

entries : (c : goal.After-self-2-1) → take c.push.new.self.len (c.note_end.new.entries ++ drop (length c.note_end.new.entries) c.push.new.self.items) ≡ map (with_end c.args.deal.now c.args.outcome) (c.self.inside.entries.items ++ entry_of (Settled c.args.deal.now c.args.outcome) ∷ [])
entries c =
    let noted : c.note_end.new.entries ≡ map (with_end c.args.deal.now c.args.outcome) c.push.new.self.items = c.note_end.ensures ∙ ap (map (with_end c.args.deal.now c.args.outcome)) c.as_mut_slice.ensures.value in
    written_back c.push.new.self.items c.note_end.new.entries c.push.new.self.len (ap length (sym c.as_mut_slice.ensures.value) ∙ c.as_mut_slice.ensures.len) (ap length noted ∙ length-map c.push.new.self.items (with_end c.args.deal.now c.args.outcome)) ∙ (noted ∙ ap (map (with_end c.args.deal.now c.args.outcome)) c.in_ok-push.ensures.items)

free : (c : goal.After-self-2-1) → settle_refusal c.args.self.now c.args.deal.now ≡ None
free c = ap (λ o. option_or o (option_or (deal_settled c.args.self.now c.args.deal.now) None)) (sym c.in_ok-check_known.ensures) ∙ ap (λ o. option_or o None) (sym c.in_ok-check_open.ensures)

pub invariant_of-self-2 : goal.invariant_of-self-2
invariant_of-self-2 c =
    let accepted : IsAccepted (history_kept (base_kept c.self.inside.rows.items c.self.inside.deals_before.items c.self.inside.holds_before.items c.self.inside.moves_before.items) c.self.inside.entries.items) (Settled c.args.deal.now c.args.outcome) = subst (λ (h : History). IsAccepted h (Settled c.args.deal.now c.args.outcome)) (sym c.self.view_is) (free c) in
    let kept = kept_by_settlement (history_kept (base_kept c.self.inside.rows.items c.self.inside.deals_before.items c.self.inside.holds_before.items c.self.inside.moves_before.items) c.self.inside.entries.items) c.self.inside.entries.items c.self.inside.deals.items c.args.deal.now c.args.outcome c.self.invariant accepted in
    rw (entries c, deals c, kept_settled (base_kept c.self.inside.rows.items c.self.inside.deals_before.items c.self.inside.holds_before.items c.self.inside.moves_before.items) c.self.inside.entries.items c.args.deal.now c.args.outcome) kept

pub returns-clause-ok : goal.returns-clause-ok
returns-clause-ok c = (
  free c,
  ap (history_kept (base_kept c.self.inside.rows.items c.self.inside.deals_before.items c.self.inside.holds_before.items c.self.inside.moves_before.items)) (entries c) ∙ (kept_settled (base_kept c.self.inside.rows.items c.self.inside.deals_before.items c.self.inside.holds_before.items c.self.inside.moves_before.items) c.self.inside.entries.items c.args.deal.now c.args.outcome ∙ ap (λ (h : History). with_change h (Settled c.args.deal.now c.args.outcome)) c.self.view_is),
)
