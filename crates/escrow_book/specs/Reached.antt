-- The histories that a book can have.
use Rattle.std.specs.Prelude.{ℕ, if◌then◌else◌, ◌≡◌, ◌<◌, Bool, true, not, ◌&&◌, nat_le, None, List, [], ◌∷◌, length, IsTrue}
use Rattle.dh_base.specs.declared.id.Id.{Id}
use Rattle.dh_base.specs.Limits.{most_parties}
use Rattle.escrow_book.specs.declared.change.Change.{Change}
use Rattle.escrow_book.specs.declared.change.Change.TheVariants.{Registered, Escrowed, Transferred, Paid, Settled}
use Rattle.escrow_book.specs.Opening.{Row, is_good_opening}
use Rattle.escrow_book.specs.Base.{Carried, nothing_carried, greatest_turn, IsGoodBase}
use Rattle.escrow_book.specs.History.{History, with_change, parties_of, is_known, is_in, moves_of}
use Rattle.escrow_book.specs.Refused.{escrow_refusal, transfer_refusal, pay_refusal, settle_refusal}

abbrev pub are_different : List Id → Bool
are_different [] = true
are_different (account ∷ accounts) = not (is_in account accounts) && are_different accounts

-- 2 to 16 different parties
abbrev pub are_parties : List Id → Bool
are_parties parties =
    nat_le 2 (length parties) && (nat_le (length parties) most_parties && are_different parties)

-- The history accepts the change next. A deal is registered once. A transfer is made at the turn
-- that the sender is at.
abbrev pub IsAccepted : History → Change → Type 0
IsAccepted history (Registered deal parties) =
    (parties_of history deal ≡ None) × IsTrue (are_parties parties)
IsAccepted history (Escrowed deal party asset amount) =
    escrow_refusal history deal party asset amount ≡ None
IsAccepted history (Transferred deal from to asset amount) =
    (transfer_refusal history deal from (moves_of history deal from) to asset amount ≡ None)
    × (moves_of history deal from < greatest_turn)
IsAccepted history (Paid from to asset amount) = pay_refusal history from to asset amount ≡ None
IsAccepted history (Settled deal outcome) = settle_refusal history deal ≡ None

-- each of the changes is accepted after the history and the changes before it
abbrev pub AreAccepted : History → List Change → Type 0
AreAccepted history [] = Unit {0}
AreAccepted history (change ∷ rest) =
    IsAccepted history change × AreAccepted (with_change history change) rest

-- The history after a registration. A deal that is known stays as it is.
abbrev pub registered : History → Id → List Id → History
registered history deal parties =
    if is_known history deal then history else with_change history (Registered deal parties)

-- the history of a book before the first change
abbrev pub begun : List Row → Carried → History
begun rows base = record { opening = rows; carried = base; changes = [] }

-- the history of a whole book before the first change
abbrev pub started : List Row → History
started rows = begun rows nothing_carried

-- what the history begins with is good, and each change was accepted after those before it
pub record IsGrown (history : History) : Type 0 where
  pub good : IsGoodBase history.opening history.carried
  pub accepted : AreAccepted (begun history.opening history.carried) history.changes

-- The history is a whole book's: it begins with a good opening alone, and each change was accepted
-- after those before it.
pub record IsReached (history : History) : Type 0 where
  pub whole : history.carried ≡ nothing_carried
  pub good : IsTrue (is_good_opening history.opening)
  pub accepted : AreAccepted (begun history.opening history.carried) history.changes
