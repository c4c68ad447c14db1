-- What the rows of a part that are taken up so far stand for.
use Rattle.escrow_book.specs.declared.part_rows.PartRows.{PartRows}
use Rattle.escrow_book.specs.Base.{Base}
use Rattle.escrow_book.specs.Kept.{base_kept}

abbrev pub base_taken : PartRows → Base
base_taken part = base_kept part.free.items part.deals.items part.holds.items part.moves.items
