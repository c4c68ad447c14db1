-- Texts in ascending order.
use Rattle.std.specs.Prelude.{ℕ, List, [], fold}
use Rattle.std.specs.List.{concat}
use Rattle.std.specs.Ordering.{nat_cmp}
use Rattle.std.specs.Cmp.Lexicographic.{slice_cmp}
use Rattle.std.specs.BTreeSet.{insert_key}

-- in ascending order of their bytes, each once
abbrev pub in_order : List (List ℕ) → List (List ℕ)
in_order lines = fold (insert_key (slice_cmp nat_cmp)) [] lines

-- one behind another
abbrev pub in_order_text : List (List ℕ) → List ℕ
in_order_text lines = concat (in_order lines)
