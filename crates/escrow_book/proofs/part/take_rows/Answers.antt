use Rattle.std.proofs.Common.{◌≡◌, ℕ, None, ◌∙◌, subst}
use Rattle.escrow_book.specs.Taken.{base_taken}
use Rattle.escrow_book.specs.PartRows.{row_fault, row_number}
use Rattle.escrow_book.proofs.Rows.{fault_on, rows_on, good_on}
use Rattle.escrow_book.proofs.part.take_rows.Goals as goal

pub loop-place-preserved : goal.loop-place-preserved
loop-place-preserved c =
    let none : row_fault (base_taken c.loop-place.part) (row_number c.loop-place.place) c.index-rows-place.result ≡ None = subst (λ (n : ℕ). row_fault (base_taken c.loop-place.part) n c.index-rows-place.result ≡ None) c.row_number.ensures c.in_ok-add.ensures.ok.0 in
    record {
      fault = c.loop-place.invariant.fault ∙ fault_on (base_taken c.loop-place.part) (base_taken c.add.new.self) c.args.rows.now c.loop-place.place c.index-rows-place.result c.index-rows-place.is c.loop-place-test.true none c.in_ok-add.ensures.ok.1;
      base = c.loop-place.invariant.base ∙ rows_on (base_taken c.loop-place.part) (base_taken c.add.new.self) c.args.rows.now c.loop-place.place c.index-rows-place.result c.index-rows-place.is c.loop-place-test.true c.in_ok-add.ensures.ok.1;
      good = good_on (base_taken c.loop-place.part) (base_taken c.add.new.self) c.loop-place.place c.index-rows-place.result c.loop-place.invariant.good c.in_ok-add.ensures.ok.2 none c.in_ok-add.ensures.ok.1;
      at_hand = c.in_ok-add.ensures.at_hand c.loop-place.invariant.at_hand;
    }
