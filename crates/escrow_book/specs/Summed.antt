-- What the running sums of a part's rows stand for.
use Rattle.std.specs.Prelude.{ℕ, ◌≡◌, ◌≤◌, None, List}
use Rattle.std.specs.List.{sum_by, count_by}
use Rattle.dh_base.specs.declared.id.Id.{Id}
use Rattle.dh_base.specs.Ids.{same_id}
use Rattle.dh_base.specs.Amounts.{greatest_amount}
use Rattle.escrow_book.specs.declared.known_deal.KnownDeal.{KnownDeal}
use Rattle.escrow_book.specs.declared.part_sums.PartSums.{PartSums}
use Rattle.escrow_book.specs.Base.{Base, find_deal, hold_commit, hold_abort, most_of, base_total}
use Rattle.escrow_book.specs.Noted.{saturated, total_noted, commit_noted, abort_noted}

-- The sums are those of the base. No asset is there above the greatest amount, no deal stands
-- twice, and each hold is of a deal that does.
pub record AreSums (sums : PartSums) (base : Base) : Type 0 where
  pub totals : (asset : List ℕ) → total_noted sums asset ≡ base_total base.0 base.1 asset
  pub commits : (deal : Id) (asset : List ℕ)
      → commit_noted sums deal asset ≡ saturated (sum_by (hold_commit deal asset) base.1.holds)
  pub aborts : (deal : Id) (asset : List ℕ)
      → abort_noted sums deal asset ≡ saturated (sum_by (hold_abort deal asset) base.1.holds)
  pub within : (asset : List ℕ) → base_total base.0 base.1 asset ≤ greatest_amount
  pub known : (deal : Id) (asset : List ℕ)
      → find_deal base.1.deals deal ≡ None → most_of base.1.holds deal asset ≡ 0
  pub once : (deal : Id)
      → count_by (λ (known : KnownDeal). same_id known.deal deal) base.1.deals ≤ 1
