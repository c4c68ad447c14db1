-- How a set is read from bytes, and the first thing that is wrong with them.
use Rattle.std.specs.Prelude.{ℕ, ◌+◌, ◌*◌, ◌==◌, zero, suc, nat_lt, if◌then◌else◌, not, List, [], ◌∷◌, ◌++◌, length, take, drop, Option, Some, None, Result, Ok, Err}
use Rattle.std.specs.Int.{w16, w32, from_be_bytes}
use Rattle.std.specs.Str.{bytes_eq}
use Rattle.dh_base.specs.Fields.{◌>>=◌, bytes_at}
use Rattle.dh_base.specs.Formats.{or_fault}
use Rattle.dh_base.specs.declared.id.Id.{Id}
use Rattle.cert_core.specs.declared.set_fault.SetFault.{SetFault}
use Rattle.cert_core.specs.declared.set_fault.SetFault.TheVariants.{BadTag, BadF, BadLength, SeatTwice}
use Rattle.cert_core.specs.Sets.{SetTold, set_tag, is_among}

-- so many accounts, one behind the other
abbrev pub accounts_in : ℕ → List ℕ → List Id
accounts_in zero bytes = []
accounts_in (suc n) bytes = record { 0 = take 32 bytes } ∷ accounts_in n (drop 32 bytes)

-- the least place of an account that stands before it too, counted from the accounts before
abbrev pub first_twice : List Id → List Id → Option ℕ
first_twice before [] = None
first_twice before (account ∷ accounts) =
    if is_among before account then Some (length before)
    else first_twice (before ++ account ∷ []) accounts

abbrev pub or_twice : SetTold → Option ℕ → Result SetTold SetFault
or_twice set None = Ok set
or_twice set (Some seat) = Err (SeatTwice seat)

-- the set that stands behind the tag, if the accounts are as many as f says
abbrev pub set_behind_tag : ℕ → ℕ → List ℕ → Result SetTold SetFault
set_behind_tag epoch f text =
    if nat_lt 5 f then Err (BadF f)
    else if not (length text == 14 + 32 * (3 * f + 1)) then Err (BadLength (length text))
    else or_twice (record { epoch = epoch; f = f; seats = accounts_in (3 * f + 1) (drop 14 text) })
    (first_twice [] (accounts_in (3 * f + 1) (drop 14 text)))

-- A tag that is cut is no tag; behind a whole one there are at least six bytes, those of the epoch
-- and of f.
unfoldable pub set_of : List ℕ → Result SetTold SetFault
set_of text = do
  tag ← or_fault (λ _. BadTag) (bytes_at 8 text 0)
  if not (bytes_eq tag set_tag) then Err BadTag
      else if nat_lt (length text) 14 then Err (BadLength (length text))
      else set_behind_tag (from_be_bytes w32 (take 4 (drop 8 text)))
      (from_be_bytes w16 (take 2 (drop 12 text))) text
