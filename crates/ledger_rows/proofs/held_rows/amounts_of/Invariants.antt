use Rattle.std.proofs.Common.{◌≡◌, ℕ, List, drop}
use Rattle.std.specs.BTreeMap.{get}
use Rattle.std.specs.Cmp.Lexicographic.{slice_cmp}
use Rattle.std.specs.Option.{option_or}
use Rattle.std.specs.Ordering.{nat_cmp}
use Rattle.ledger_rows.specs.Scanning.{listed}
use Rattle.ledger_rows.proofs.held_rows.amounts_of.Given as goal

abbrev pub invariant-loop-row : goal.invariant-loop-row
invariant-loop-row l = (asset : List ℕ) →
    option_or (listed l.front (drop l.row-index l.rows) asset) (get (slice_cmp nat_cmp) l.amounts asset)
    ≡ listed l.front l.rows asset
