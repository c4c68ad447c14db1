-- Statements that were heard: one is kept for each deal and ledger.
use Rattle.std.specs.Prelude.{ℕ, Bool, ◌&&◌, if◌then◌else◌, List, [], ◌∷◌, Option, is_some}
use Rattle.std.specs.List.{find, list_any}
use Rattle.std.specs.Str.{bytes_eq}
use Rattle.dh_base.specs.declared.id.Id.{Id}
use Rattle.dh_base.specs.Ids.{same_id}
use Rattle.act_text.specs.declared.statement.HeldRow.{HeldRow}
use Rattle.act_text.specs.declared.statement.Statement.{Statement}

-- the statement is on that deal and of that ledger
abbrev pub is_about : Id → List ℕ → Statement → Bool
is_about deal ledger statement = same_id deal statement.deal && bytes_eq ledger statement.ledger

-- the kept statement of that deal and ledger
abbrev pub kept_of : List Statement → Id → List ℕ → Option Statement
kept_of heard deal ledger = find (is_about deal ledger) heard

-- the statement in place of the kept one of its deal and ledger
abbrev pub with_heard : List Statement → Statement → List Statement
with_heard [] statement = statement ∷ []
with_heard (kept ∷ heard) statement =
    if is_about statement.deal statement.ledger kept then statement ∷ heard
    else kept ∷ with_heard heard statement

-- what the first row that names the asset lists, and 0 where none does
abbrev pub listed_of : List HeldRow → List ℕ → ℕ
listed_of [] asset = 0
listed_of (row ∷ rows) asset = if bytes_eq asset row.asset then row.amount else listed_of rows asset

-- the statement says that the deal is settled
abbrev pub tells_settled : Id → Statement → Bool
tells_settled deal statement = same_id deal statement.deal && is_some statement.settled

-- a kept statement of the deal does
abbrev pub is_settled_in : List Statement → Id → Bool
is_settled_in heard deal = list_any (tells_settled deal) heard
