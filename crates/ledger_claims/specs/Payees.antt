-- Who is paid by a settlement: what is owned in the deal, and what the owners can spend before it.
use Rattle.std.specs.Prelude.{ℕ, ◌≡◌, ◌+◌, ◌*◌, if◌then◌else◌, List, [], ◌∷◌, length, Option, Some, None}
use Rattle.std.specs.Option.{option_map, option_or}
use Rattle.dh_base.specs.declared.id.Id.{Id}
use Rattle.dh_base.specs.Ids.{same_id}
use Rattle.escrow_book.specs.declared.row.HoldRow.{HoldRow}
use Rattle.keeper_core.specs.declared.row.Row.{Row}
use Rattle.keeper_core.specs.declared.store_fault.StoreFault.{StoreFault}
use Rattle.keeper_core.specs.declared.store_fault.StoreFault.TheVariants.{Keeper, BadRow, NoMemory}
use Rattle.keeper_core.specs.Tables.{Tables, rows_of}
use Rattle.ledger_rows.specs.declared.hold.Hold.{Hold}
use Rattle.ledger_rows.specs.RowKeys.{hold_tab, first_id, behind_id, asset_in, is_hold_key}
use Rattle.ledger_rows.specs.RowReading.{pair_of, free_said, free_refusal}
use Rattle.ledger_rows.specs.RowValues.{hold_in}
use Rattle.ledger_rows.specs.Scanning.{scan_refusal}
use Rattle.ledger_claims.specs.declared.payees.Payee.{Payee}

-- The fault is the refusal. Want of memory may come in place of any answer.
abbrev pub IsRowFault : Option StoreFault → StoreFault → Type 0
IsRowFault refusal Keeper = ⊥
IsRowFault refusal NoMemory = Unit {0}
IsRowFault refusal (BadRow tab key) = refusal ≡ Some (BadRow tab key)

-- ---- the rows of a deal

-- the deal, the account and the asset that a key spells, if it spells them
abbrev pub key_parts : List ℕ → Option (Id × (Id × List ℕ))
key_parts key =
    if is_hold_key key
    then Some (first_id key, (first_id (behind_id key), asset_in (behind_id key))) else None

abbrev pub owned_by : Option (Id × (Id × List ℕ)) → Option Hold → Option HoldRow
owned_by (Some parts) (Some hold) =
    Some (record {
      deal = parts.0;
      account = parts.1.0;
      asset = parts.1.1;
      commit = hold.commit;
      abort = hold.abort;
    })
owned_by parts hold = None

-- what a row of the table of holds tells, if it has its form
abbrev pub owned_in : Row → Option HoldRow
owned_in row = owned_by (key_parts row.key) (hold_in row.val)

abbrev pub with_owned : Id → Option HoldRow → List HoldRow → List HoldRow
with_owned deal None rest = rest
with_owned deal (Some hold) rest = if same_id hold.deal deal then hold ∷ rest else rest

-- what the rows tell of the deal
abbrev pub owned_of : Id → List Row → List HoldRow
owned_of deal [] = []
owned_of deal (row ∷ rows) = with_owned deal (owned_in row) (owned_of deal rows)

-- what is owned in the deal
abbrev pub owned_at : Id → Tables → List HoldRow
owned_at deal tables = owned_of deal (rows_of hold_tab tables)

-- ---- what the owners can spend

abbrev pub payee : HoldRow → ℕ → Payee
payee hold free = record { hold = hold; free = free }

abbrev pub payee_before : HoldRow → ℕ × List Payee → List Payee
payee_before hold said = payee hold said.0 ∷ said.1

-- each owner with what it can spend, where the rows say it
abbrev pub payees_said : List HoldRow → Tables → Option (List Payee)
payees_said [] tables = Some []
payees_said (hold ∷ rest) tables =
    option_map (payee_before hold)
    (pair_of (free_said hold.account hold.asset tables) (payees_said rest tables))

-- the first row of a free amount that lacks its form
abbrev pub payees_refusal : List HoldRow → Tables → Option StoreFault
payees_refusal [] tables = None
payees_refusal (hold ∷ rest) tables =
    option_or (free_refusal hold.account hold.asset tables) (payees_refusal rest tables)

-- ---- by the tables

abbrev pub payees_at : Id → Tables → Option (List Payee)
payees_at deal tables = payees_said (owned_at deal tables) tables

-- All rows of holds are read, and then the free amounts of the owners.
abbrev pub payees_form : Id → Tables → Option StoreFault
payees_form deal tables =
    option_or (scan_refusal hold_tab tables) (payees_refusal (owned_at deal tables) tables)

-- so many rows, and twice those of holds
abbrev pub beside_twice : ℕ → Tables → ℕ
beside_twice rows tables = rows + 2 * length (rows_of hold_tab tables)
