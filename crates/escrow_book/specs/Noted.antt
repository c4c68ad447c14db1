-- What is noted of sums by key, and of the sums of a part's rows.
use Rattle.std.specs.Prelude.{ℕ, ◌≡◌, ◌+◌, ◌-◌, ◌^◌, min, max, Bool, is_some, ◌&&◌, if◌then◌else◌, List}
use Rattle.std.specs.BTreeMap as tree
use Rattle.std.specs.Option.{unwrap_or}
use Rattle.std.specs.Ordering.{nat_cmp, ordering_then}
use Rattle.std.specs.Cmp.Lexicographic.{slice_cmp}
use Rattle.std.specs.Str.{bytes_eq}
use Rattle.std.specs.declared.cmp.Ordering.{Ordering}
use Rattle.dh_base.specs.declared.id.Id.{Id}
use Rattle.dh_base.specs.Ids.{same_id}
use Rattle.escrow_book.specs.declared.row.HoldRow.{HoldRow}
use Rattle.escrow_book.specs.declared.tally.Tally.{Tally}
use Rattle.escrow_book.specs.declared.part_sums.PartSums.{PartSums}

-- the sum of the key
abbrev pub sum_noted : {K : Type 0} → (K → K → Ordering) → Tally K → K → ℕ
sum_noted compare tally key = unwrap_or (tree.get compare tally.noted key) 0

-- the key is noted, so its sum can be set
abbrev pub has_room : {K : Type 0} → (K → K → Ordering) → Tally K → K → Bool
has_room compare tally key = is_some (tree.get compare tally.noted key)

-- how names are ordered, and deals with assets
abbrev pub name_cmp : List ℕ → List ℕ → Ordering
name_cmp a b = slice_cmp nat_cmp a b

abbrev pub deal_cmp : Id × List ℕ → Id × List ℕ → Ordering
deal_cmp a b = ordering_then (slice_cmp nat_cmp a.0.0 b.0.0) (slice_cmp nat_cmp a.1 b.1)

-- what is noted of the asset in all
abbrev pub total_noted : PartSums → List ℕ → ℕ
total_noted sums asset = sum_noted name_cmp sums.totals asset

-- what is noted of the deal's holds of the asset
abbrev pub commit_noted : PartSums → Id → List ℕ → ℕ
commit_noted sums deal asset = sum_noted deal_cmp sums.commits (deal, asset)

abbrev pub abort_noted : PartSums → Id → List ℕ → ℕ
abort_noted sums deal asset = sum_noted deal_cmp sums.aborts (deal, asset)

-- the total of the asset is noted, and the sums of the hold are
abbrev pub has_total : PartSums → List ℕ → Bool
has_total sums asset = has_room name_cmp sums.totals asset

abbrev pub has_hold : PartSums → HoldRow → Bool
has_hold sums hold =
    has_total sums hold.asset
    && (has_room deal_cmp sums.commits (hold.deal, hold.asset)
    && has_room deal_cmp sums.aborts (hold.deal, hold.asset))

-- a sum of 64 bits, which stays at the greatest number where it would be above it
abbrev pub saturated : ℕ → ℕ
saturated sum = min sum (2 ^ 64 - 1)

-- by how much the greater of both sums rises with these amounts
abbrev pub rise : ℕ → ℕ → HoldRow → ℕ
rise commit abort hold =
    max (saturated (commit + hold.commit)) (saturated (abort + hold.abort)) - max commit abort

-- the same is noted of every key
pub record NoteTheSame (before after : PartSums) : Type 0 where
  pub totals : (asset : List ℕ) → total_noted after asset ≡ total_noted before asset
  pub commits : (deal : Id) (asset : List ℕ)
      → commit_noted after deal asset ≡ commit_noted before deal asset
  pub aborts : (deal : Id) (asset : List ℕ)
      → abort_noted after deal asset ≡ abort_noted before deal asset

-- the asset has another total, and everything else is as before
pub record NotesTotal (before after : PartSums) (kind : List ℕ) (total : ℕ) : Type 0 where
  pub totals : (asset : List ℕ)
      → total_noted after asset
      ≡ (if bytes_eq asset kind then total else total_noted before asset)
  pub commits : (deal : Id) (asset : List ℕ)
      → commit_noted after deal asset ≡ commit_noted before deal asset
  pub aborts : (deal : Id) (asset : List ℕ)
      → abort_noted after deal asset ≡ abort_noted before deal asset

-- the hold is added to the sums of its deal, and its asset has another total
pub record NotesHold (before after : PartSums) (hold : HoldRow) (total : ℕ) : Type 0 where
  pub totals : (asset : List ℕ)
      → total_noted after asset
      ≡ (if bytes_eq asset hold.asset then total else total_noted before asset)
  pub commits : (deal : Id) (asset : List ℕ)
      → commit_noted after deal asset
      ≡ (if same_id deal hold.deal && bytes_eq asset hold.asset
      then saturated (commit_noted before deal asset + hold.commit)
      else commit_noted before deal asset)
  pub aborts : (deal : Id) (asset : List ℕ)
      → abort_noted after deal asset
      ≡ (if same_id deal hold.deal && bytes_eq asset hold.asset
      then saturated (abort_noted before deal asset + hold.abort)
      else abort_noted before deal asset)
