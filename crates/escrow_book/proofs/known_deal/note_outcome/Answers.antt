use Rattle.std.proofs.Common.{Some, arith}
use Rattle.escrow_book.specs.declared.known_deal.KnownDeal.{KnownDeal}
use Rattle.dh_base.specs.Ids.{same_id}
use Rattle.escrow_book.proofs.Keeping.{changed_here, left_here}
use Rattle.escrow_book.proofs.known_deal.note_outcome.Goals as goal
use Rattle.escrow_book.proofs.known_deal.note_outcome.Goals.{then-eq, else-eq}

pub loop-place-preserved : goal.loop-place-preserved
loop-place-preserved c =
    elim c.if-eq.branch [
      | then-eq w ↦ changed_here (λ (known : KnownDeal). same_id c.args.deal.now known.deal) (λ (known : KnownDeal). record known { outcome = Some c.args.outcome }) c.args.deals.now c.loop-place.deals c.loop-place.place c.index-deals-place.result c.loop-place-test.true (omega arith) c.loop-place.invariant c.if-eq.deals w.index-deals-place-then-eq.result w.if-eq.ensures w.deals-is
      | else-eq w ↦ left_here (λ (known : KnownDeal). same_id c.args.deal.now known.deal) (λ (known : KnownDeal). record known { outcome = Some c.args.outcome }) c.args.deals.now c.loop-place.deals c.loop-place.place c.index-deals-place.result c.loop-place-test.true (omega arith) c.loop-place.invariant c.if-eq.deals w.if-eq.ensures w.deals-is
    ]
