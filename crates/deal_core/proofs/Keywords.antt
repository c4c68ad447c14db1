-- The word with which a line begins.
use Rattle.std.proofs.Common.{◌≡◌, ℕ, Bool, true, false, cond, Option, Some, List, refl}
use Rattle.std.specs.Str.{bytes_eq}
use Rattle.std.proofs.lemmas.Slice.Eq.{bytes_eq-Decides}
use Rattle.deal_core.specs.declared.deal_line.DealLine.{DealLine}

-- the first word is the keyword, or the rest of the tests decides
pub keyword_or : (w key : List ℕ) (here other : Option DealLine) (y : DealLine) (P : Type 0) → cond (bytes_eq w key) here other ≡ Some y → (w ≡ key → here ≡ Some y → P) → (other ≡ Some y → P) → P
keyword_or w key here other y P e named later = by_test (bytes_eq w key) refl e
  where
    by_test : (b : Bool) → bytes_eq w key ≡ b → cond b here other ≡ Some y → P
    by_test true h f = named ((bytes_eq-Decides w key).0 h) f
    by_test false h f = later f
