-- What a call that reads rows of a keeper answers, and what it leaves.
use Rattle.std.specs.Prelude.{ℕ, ◌≡◌, ◌+◌, ◌≤◌, ◌==◌, ◌&&◌, Bool, true, false, if◌then◌else◌, List, [], ◌∷◌, length, Option, Some, None, is_some, IfErr, Result}
use Rattle.std.specs.Option.{option_map, option_or}
use Rattle.std.specs.FinMap.{get}
use Rattle.keeper_core.specs.declared.row.Row.{Row}
use Rattle.keeper_core.specs.declared.store_fault.StoreFault.{StoreFault}
use Rattle.keeper_core.specs.Tables.{Tables, rows_of}
use Rattle.keeper_core.specs.Knowing.{Known, LooksAtMost}
use Rattle.keeper_core.specs.Leaving.{Leaves, ended, of_store_fault}
use Rattle.keeper_core.specs.Stepping.{WhereTold, IsReply}
use Rattle.keeper_core.specs.StoreFaults.{bad_row_of, HasCause}
use Rattle.dh_base.specs.declared.id.Id.{Id}
use Rattle.ledger_rows.specs.declared.free_amount.FreeAmount.{FreeAmount}
use Rattle.ledger_rows.specs.declared.hold.Hold.{Hold}
use Rattle.ledger_rows.specs.declared.move_count.MoveCount.{MoveCount}
use Rattle.ledger_rows.specs.declared.registration.Registration.{Registration}
use Rattle.ledger_rows.specs.declared.used_key.UsedKey.{UsedKey}
use Rattle.ledger_rows.specs.RowKeys.{free_tab, deal_tab, hold_tab, moves_tab, used_tab, entry_tab, free_key, deal_key, hold_key, moves_key, used_key, is_free_key, is_hold_key}
use Rattle.ledger_rows.specs.RowValues.{free_in, registration_in, hold_in, moves_in, used_in, entry_in}

-- what stands at a key, where it has its form: no row, or what its bytes stand for
abbrev pub row_of : {V : Type 0} → (List ℕ → Option V) → Option (List ℕ) → Option (Option V)
row_of value_of None = Some None
row_of value_of (Some val) = option_map Some (value_of val)

abbrev pub row_at : {V : Type 0} → (List ℕ → Option V) → ℕ → List ℕ → Tables → Option (Option V)
row_at value_of tab key tables = row_of value_of (get tables (tab, key))

-- the row is named that has not its form
abbrev pub form_refusal : {T : Type 0} → ℕ → List ℕ → Option T → Option StoreFault
form_refusal tab key None = Some (bad_row_of tab key)
form_refusal tab key (Some said) = None

-- The call reads what is said, if it is said, or is refused by the fault. It looks so many rows up
-- at most, and changes nothing. A row that it names has not its form.
pub record Reads {A : Type 0} (rows : ℕ) (said : Tables → Option A)
    (refusal : Tables → Option StoreFault) (LacksForm : ℕ → Row → Type 0)
    (result : Result A StoreFault) (before after : Known) : Type 0 where
  pub reply : WhereTold before after (λ tables.
      IsReply of_store_fault (refusal tables) (λ answer. said tables ≡ Some answer) result)
  pub cause : IfErr result (HasCause LacksForm after.tables)
  pub leaves : Leaves [] (ended of_store_fault result) before after
  pub looked : LooksAtMost rows before after

-- The row stands at that key, and its bytes stand for nothing.
pub record LacksFormAt {V : Type 0} (value_of : List ℕ → Option V) (tab : ℕ) (key : List ℕ)
    (named : ℕ) (row : Row) : Type 0 where
  pub of : named ≡ tab
  pub at : row.key ≡ key
  pub nothing : value_of row.val ≡ None

-- The call reads the one row.
abbrev pub ReadsRow : {V : Type 0} → (List ℕ → Option V) → ℕ → List ℕ
    → Result (Option V) StoreFault → Known → Known → Type 0
ReadsRow value_of tab key =
    Reads 1 (row_at value_of tab key)
    (λ tables. form_refusal tab key (row_at value_of tab key tables))
    (LacksFormAt value_of tab key)

-- ---- a whole table

-- the first row whose bytes stand for nothing
abbrev pub first_formless : {V : Type 0} → (List ℕ → Option V) → List Row → Option Row
first_formless value_of [] = None
first_formless value_of (row ∷ rows) =
    if is_some (value_of row.val) then first_formless value_of rows else Some row

-- the first of the rows is named that has not its form
abbrev pub forms_refusal : {V : Type 0} → (List ℕ → Option V) → ℕ → List Row → Option StoreFault
forms_refusal value_of tab rows =
    option_map (λ (row : Row). bad_row_of tab row.key) (first_formless value_of rows)

-- So many rows are looked up at most beside all of the table, where they are told.
abbrev pub LooksThrough : ℕ → ℕ → Known → Known → Type 0
LooksThrough tab rows before after =
    (before.looked ≤ after.looked)
    × WhereTold before after (λ tables.
    after.looked ≤ before.looked + (rows + length (rows_of tab tables)))

-- The same of a call that goes through a table: it looks up so many rows beside those of the table,
-- at most.
pub record ReadsTable {A : Type 0} (rows tab : ℕ) (said : Tables → Option A)
    (refusal : Tables → Option StoreFault) (LacksForm : ℕ → Row → Type 0)
    (result : Result A StoreFault) (before after : Known) : Type 0 where
  pub reply : WhereTold before after (λ tables.
      IsReply of_store_fault (refusal tables) (λ answer. said tables ≡ Some answer) result)
  pub cause : IfErr result (HasCause LacksForm after.tables)
  pub leaves : Leaves [] (ended of_store_fault result) before after
  pub looked : LooksThrough tab rows before after

-- ---- one reading behind another

-- two values, where there are both
abbrev pub pair_of : {A B : Type 0} → Option A → Option B → Option (A × B)
pair_of (Some x) (Some y) = Some (x, y)
pair_of one other = None

-- both are said
abbrev pub both_said : {A B : Type 0} → (Tables → Option A) → (Tables → Option B) → Tables
    → Option (A × B)
both_said one other tables = pair_of (one tables) (other tables)

-- the first of the two faults
abbrev pub either_refusal : (Tables → Option StoreFault) → (Tables → Option StoreFault) → Tables
    → Option StoreFault
either_refusal one other tables = option_or (one tables) (other tables)

-- ---- the rows of a ledger

-- the bytes have the form of the values of that table
abbrev pub has_form : ℕ → List ℕ → Bool
has_form tab val =
    if tab == free_tab then is_some (free_in val) else if tab == deal_tab
    then is_some (registration_in val) else if tab == hold_tab then is_some (hold_in val)
    else if tab == moves_tab then is_some (moves_in val)
    else if tab == used_tab then is_some (used_in val)
    else if tab == entry_tab then is_some (entry_in val) else true

-- the key has the form of the keys of that table
abbrev pub has_key_form : ℕ → List ℕ → Bool
has_key_form tab key =
    if tab == free_tab then is_free_key key else if tab == hold_tab then is_hold_key key else true

abbrev pub is_formed : ℕ → Row → Bool
is_formed tab row = has_form tab row.val && has_key_form tab row.key

abbrev pub LacksForm : ℕ → Row → Type 0
LacksForm tab row = is_formed tab row ≡ false

-- what an account can spend, by its row
abbrev pub amount_said : Option FreeAmount → ℕ
amount_said None = 0
amount_said (Some free) = free.amount

abbrev pub free_said : Id → List ℕ → Tables → Option ℕ
free_said account asset tables =
    option_map amount_said (row_at free_in free_tab (free_key account asset) tables)

abbrev pub free_refusal : Id → List ℕ → Tables → Option StoreFault
free_refusal account asset tables =
    form_refusal free_tab (free_key account asset)
    (row_at free_in free_tab (free_key account asset) tables)

-- the deal, where it is registered
abbrev pub deal_said : Id → Tables → Option (Option Registration)
deal_said deal tables = row_at registration_in deal_tab (deal_key deal) tables

abbrev pub deal_refusal : Id → Tables → Option StoreFault
deal_refusal deal tables = form_refusal deal_tab (deal_key deal) (deal_said deal tables)

-- what a party owns in a deal, by its row
abbrev pub amounts_said : Option Hold → Hold
amounts_said None = record { commit = 0; abort = 0 }
amounts_said (Some hold) = hold

abbrev pub hold_said : Id → Id → List ℕ → Tables → Option Hold
hold_said deal account asset tables =
    option_map amounts_said (row_at hold_in hold_tab (hold_key deal account asset) tables)

abbrev pub hold_refusal : Id → Id → List ℕ → Tables → Option StoreFault
hold_refusal deal account asset tables =
    form_refusal hold_tab (hold_key deal account asset)
    (row_at hold_in hold_tab (hold_key deal account asset) tables)

-- how many transfers a party has made in a deal, by its row
abbrev pub count_said : Option MoveCount → ℕ
count_said None = 0
count_said (Some moves) = moves.count

abbrev pub moves_said : Id → Id → Tables → Option ℕ
moves_said deal account tables =
    option_map count_said (row_at moves_in moves_tab (moves_key deal account) tables)

abbrev pub moves_refusal : Id → Id → Tables → Option StoreFault
moves_refusal deal account tables =
    form_refusal moves_tab (moves_key deal account)
    (row_at moves_in moves_tab (moves_key deal account) tables)

-- what a key of an account has signed
abbrev pub used_said : Id → ℕ → Tables → Option (Option UsedKey)
used_said account q tables = row_at used_in used_tab (used_key account q) tables

abbrev pub used_refusal : Id → ℕ → Tables → Option StoreFault
used_refusal account q tables =
    form_refusal used_tab (used_key account q) (used_said account q tables)
