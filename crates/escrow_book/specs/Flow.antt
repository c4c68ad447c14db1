-- What a book adds up for the free amount: payments, the transfers of deals that have committed,
-- and the escrows of deals that are still open. What was escrowed in a settled deal has gone and
-- come back.
use Rattle.std.specs.Prelude.{ℕ, Bool, true, false, ◌&&◌, if◌then◌else◌, Option, Some, None, is_none, List}
use Rattle.std.specs.Str.{bytes_eq}
use Rattle.dh_base.specs.declared.id.Id.{Id}
use Rattle.dh_base.specs.declared.outcome.Outcome.{Outcome}
use Rattle.dh_base.specs.declared.outcome.Outcome.TheVariants.{Commit, Abort}
use Rattle.escrow_book.specs.declared.change.Change.{Change}
use Rattle.escrow_book.specs.declared.change.Change.TheVariants.{Escrowed, Transferred, Paid, Settled}
use Rattle.dh_base.specs.Ids.{same_id}
use Rattle.escrow_book.specs.Base.{Carried, carried_payout}

abbrev pub is_commit : Option Outcome → Bool
is_commit None = false
is_commit (Some Commit) = true
is_commit (Some Abort) = false

-- the amount, if the deal has committed
abbrev pub if_committed : Option Outcome → ℕ → ℕ
if_committed ended amount = if is_commit ended then amount else 0

-- the amount, if the deal isn't settled
abbrev pub if_running : Option Outcome → ℕ → ℕ
if_running ended amount = if is_none ended then amount else 0

-- what the change brings the account, where its deal has ended so
abbrev pub gained : Option Outcome → Id → List ℕ → Change → ℕ
gained ended account asset (Paid from to kind amount) =
    if same_id account to && bytes_eq asset kind then amount else 0
gained ended account asset (Transferred deal from to kind amount) =
    if same_id account to && bytes_eq asset kind then if_committed ended amount else 0
gained ended account asset _ = 0

-- what the change takes from the account, where its deal has ended so
abbrev pub lost : Option Outcome → Id → List ℕ → Change → ℕ
lost ended account asset (Paid from to kind amount) =
    if same_id account from && bytes_eq asset kind then amount else 0
lost ended account asset (Transferred deal from to kind amount) =
    if same_id account from && bytes_eq asset kind then if_committed ended amount else 0
lost ended account asset (Escrowed deal owner kind amount) =
    if same_id account owner && bytes_eq asset kind then if_running ended amount else 0
lost ended account asset _ = 0

-- what the settlement brings the account of what is carried
abbrev pub carried_out : Carried → Id → List ℕ → Change → ℕ
carried_out base account asset (Settled deal outcome) =
    carried_payout base deal outcome account asset
carried_out base account asset _ = 0
