-- The limits of claims.
use Rattle.std.specs.Prelude.{ℕ, ◌<◌, ◌≤◌, ◌^◌, length}
use Rattle.std.specs.List.{AllByRecursion}
use Rattle.claim_core.specs.declared.link.Link.{Link}
use Rattle.claim_core.specs.declared.claim.Claim.{Claim}

abbrev pub most_links : ℕ
most_links = 64

abbrev pub most_records : ℕ
most_records = 4096

-- of one list
abbrev pub most_sigs : ℕ
most_sigs = 16

-- few links, each of a set text that has a length of four bytes, and few records
pub record IsSmall (claim : Claim) : Type 0 where
  pub links : length claim.links ≤ most_links
  pub texts : AllByRecursion (λ (link : Link). length link.set_text < 2 ^ 32) claim.links
  pub recs : length claim.recs ≤ most_records
