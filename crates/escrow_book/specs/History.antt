-- The history of a book: its opening rows, what it carries along, and the changes that it has
-- accepted, in order. Every amount is what it begins with and a sum over the whole list. What came
-- and what went are sums of their own.
use Rattle.std.specs.Prelude.{ℕ, ◌+◌, ◌-◌, Bool, false, ◌&&◌, if◌then◌else◌, Option, Some, None, is_some, List, [], ◌∷◌, ◌++◌}
use Rattle.std.specs.List.{sum_by, count_by, list_any}
use Rattle.std.specs.Option.{option_or}
use Rattle.std.specs.Str.{bytes_eq}
use Rattle.dh_base.specs.declared.id.Id.{Id}
use Rattle.dh_base.specs.declared.outcome.Outcome.{Outcome}
use Rattle.dh_base.specs.declared.outcome.Outcome.TheVariants.{Commit, Abort}
use Rattle.escrow_book.specs.declared.change.Change.{Change}
use Rattle.escrow_book.specs.declared.change.Change.TheVariants.{Registered, Escrowed, Transferred, Paid, Settled}
use Rattle.escrow_book.specs.Opening.{Row, opening_of}
use Rattle.dh_base.specs.Ids.{same_id}
use Rattle.escrow_book.specs.Base.{Carried, carried_parties, carried_outcome, carried_commit, carried_abort, carried_moves}

pub record History : Type 0 where
  pub opening : List Row
  pub carried : Carried
  pub changes : List Change

-- the history with one change more
abbrev pub with_change : History → Change → History
with_change history change = record history { changes = history.changes ++ change ∷ [] }

-- the history with more changes
abbrev pub with_changes : History → List Change → History
with_changes history more = record history { changes = history.changes ++ more }

-- the first answer that a change gives
abbrev pub first_answer : {T : Type 0} → (Change → Option T) → List Change → Option T
first_answer answer [] = None
first_answer answer (change ∷ rest) = option_or (answer change) (first_answer answer rest)

-- the parties with which the change registers the deal
abbrev pub registration : Id → Change → Option (List Id)
registration deal (Registered within parties) = if same_id deal within then Some parties else None
registration deal _ = None

-- the outcome with which the change settles the deal
abbrev pub settlement : Id → Change → Option Outcome
settlement deal (Settled within outcome) = if same_id deal within then Some outcome else None
settlement deal _ = None

-- the parties of the deal, where it is registered
abbrev pub parties_of : History → Id → Option (List Id)
parties_of history deal =
    option_or (carried_parties history.carried deal)
    (first_answer (registration deal) history.changes)

-- the outcome of the deal, where it is settled
abbrev pub settlement_of : History → Id → Option Outcome
settlement_of history deal =
    option_or (carried_outcome history.carried deal)
    (first_answer (settlement deal) history.changes)

-- the deal is registered
abbrev pub is_known : History → Id → Bool
is_known history deal = is_some (parties_of history deal)

abbrev pub is_in : Id → List Id → Bool
is_in account accounts = list_any (same_id account) accounts

-- the account is one of the parties, where there are any
abbrev pub is_among : Id → Option (List Id) → Bool
is_among account None = false
is_among account (Some parties) = is_in account parties

-- the account is a party of the deal
abbrev pub is_party : History → Id → Id → Bool
is_party history deal party = is_among party (parties_of history deal)

-- what the party puts under the deal by the change
abbrev pub escrowed : Id → Id → List ℕ → Change → ℕ
escrowed deal party asset (Escrowed within owner kind amount) =
    if same_id deal within && (same_id party owner && bytes_eq asset kind) then amount else 0
escrowed deal party asset _ = 0

-- what the party gets in the deal by the change
abbrev pub received : Id → Id → List ℕ → Change → ℕ
received deal party asset (Transferred within from to kind amount) =
    if same_id deal within && (same_id party to && bytes_eq asset kind) then amount else 0
received deal party asset _ = 0

-- what the party gives in the deal by the change
abbrev pub given : Id → Id → List ℕ → Change → ℕ
given deal party asset (Transferred within from to kind amount) =
    if same_id deal within && (same_id party from && bytes_eq asset kind) then amount else 0
given deal party asset _ = 0

-- the change is a transfer by the party in the deal
abbrev pub is_move : Id → Id → Change → Bool
is_move deal party (Transferred within from to kind amount) =
    same_id deal within && same_id party from
is_move deal party _ = false

-- what the party owns if the deal aborts: what it is carried with, and its escrows
abbrev pub if_abort_of : History → Id → Id → List ℕ → ℕ
if_abort_of history deal party asset =
    carried_abort history.carried deal party asset
    + sum_by (escrowed deal party asset) history.changes

-- what came to the party in the deal, and what went from it
abbrev pub deal_came : History → Id → Id → List ℕ → ℕ
deal_came history deal party asset =
    carried_commit history.carried deal party asset
    + (sum_by (escrowed deal party asset) history.changes
    + sum_by (received deal party asset) history.changes)

abbrev pub deal_went : History → Id → Id → List ℕ → ℕ
deal_went history deal party asset = sum_by (given deal party asset) history.changes

-- what the party owns if the deal commits: what it is carried with, its escrows and what it
-- received, less what it gave
abbrev pub if_commit_of : History → Id → Id → List ℕ → ℕ
if_commit_of history deal party asset =
    deal_came history deal party asset - deal_went history deal party asset

-- how many transfers the party has made in the deal
abbrev pub moves_of : History → Id → Id → ℕ
moves_of history deal party =
    carried_moves history.carried deal party + count_by (is_move deal party) history.changes

-- what the party is paid when the deal ends so
abbrev pub payout_of : History → Id → Outcome → Id → List ℕ → ℕ
payout_of history deal Commit party asset = if_commit_of history deal party asset
payout_of history deal Abort party asset = if_abort_of history deal party asset

-- what the account is paid by the change, in a payment and at a settlement
abbrev pub paid_to : Id → List ℕ → Change → ℕ
paid_to account asset (Paid from to kind amount) =
    if same_id account to && bytes_eq asset kind then amount else 0
paid_to account asset _ = 0

abbrev pub paid_out : History → Id → List ℕ → Change → ℕ
paid_out history account asset (Settled deal outcome) = payout_of history deal outcome account asset
paid_out history account asset _ = 0

-- what the account spends by the change, in a payment and as an escrow
abbrev pub paid_from : Id → List ℕ → Change → ℕ
paid_from account asset (Paid from to kind amount) =
    if same_id account from && bytes_eq asset kind then amount else 0
paid_from account asset _ = 0

abbrev pub put_up : Id → List ℕ → Change → ℕ
put_up account asset (Escrowed deal owner kind amount) =
    if same_id account owner && bytes_eq asset kind then amount else 0
put_up account asset _ = 0

-- what came to the account outside of deals: its opening amount, payments to it and payouts
abbrev pub free_came : History → Id → List ℕ → ℕ
free_came history account asset =
    opening_of history.opening account asset
    + (sum_by (paid_to account asset) history.changes
    + sum_by (paid_out history account asset) history.changes)

-- what went from it: payments and escrows
abbrev pub free_went : History → Id → List ℕ → ℕ
free_went history account asset =
    sum_by (paid_from account asset) history.changes + sum_by (put_up account asset) history.changes

-- what the account can spend
abbrev pub free_of : History → Id → List ℕ → ℕ
free_of history account asset = free_came history account asset - free_went history account asset
