use Rattle.std.proofs.Common.{◌≡◌, drop}
use Rattle.escrow_book.specs.Base.{IsGoodBase}
use Rattle.escrow_book.specs.PartRows.{no_rows, with_rows, first_fault}
use Rattle.escrow_book.specs.Taken.{base_taken}
use Rattle.escrow_book.proofs.part.take_rows.Given as goal

abbrev pub invariant-loop-place : goal.invariant-loop-place
invariant-loop-place l = record {
  fault : first_fault no_rows 0 l.rows ≡ first_fault (base_taken l.part) l.place (drop l.place l.rows);
  base : with_rows no_rows l.rows ≡ with_rows (base_taken l.part) (drop l.place l.rows);
  good : IsGoodBase (base_taken l.part).0 (base_taken l.part).1;
  at_hand : l.part.at_hand.items ≡ l.part.deals.items;
}
