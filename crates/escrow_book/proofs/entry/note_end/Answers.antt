use Rattle.std.proofs.Common.{Some, sym, ◌∙◌, arith}
use Rattle.escrow_book.specs.declared.entry.Entry.{Entry}
use Rattle.escrow_book.specs.Kept.{is_under}
use Rattle.escrow_book.proofs.Keeping.{changed_here, left_here}
use Rattle.escrow_book.proofs.entry.note_end.Goals as goal
use Rattle.escrow_book.proofs.entry.note_end.Goals.{then-is_under, else-is_under}

pub loop-place-preserved : goal.loop-place-preserved
loop-place-preserved c =
    elim c.if-is_under.branch [
      | then-is_under w ↦ changed_here (λ (entry : Entry). is_under c.args.deal.now entry.change) (λ (entry : Entry). record entry { ended = Some c.args.outcome }) c.args.entries.now c.loop-place.entries c.loop-place.place c.index-entries-place.result c.loop-place-test.true (omega arith) c.loop-place.invariant c.if-is_under.entries w.index-entries-place-then-is_under.result (sym w.if-is_under.true ∙ c.is_under.ensures) w.entries-is
      | else-is_under w ↦ left_here (λ (entry : Entry). is_under c.args.deal.now entry.change) (λ (entry : Entry). record entry { ended = Some c.args.outcome }) c.args.entries.now c.loop-place.entries c.loop-place.place c.index-entries-place.result c.loop-place-test.true (omega arith) c.loop-place.invariant c.if-is_under.entries (sym w.if-is_under.false ∙ c.is_under.ensures) w.entries-is
    ]
