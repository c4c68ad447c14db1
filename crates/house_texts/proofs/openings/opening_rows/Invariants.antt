use Rattle.std.proofs.Common.{◌≡◌, take}
use Rattle.std.specs.List.{filter_map}
use Rattle.house_texts.specs.Openings.{open_by}
use Rattle.house_texts.proofs.openings.opening_rows.Given as goal

abbrev pub invariant-loop-declaration : goal.invariant-loop-declaration
invariant-loop-declaration l = l.rows.items ≡ filter_map (open_by l.holders l.ledger) (take l.declaration-index l.declarations)
