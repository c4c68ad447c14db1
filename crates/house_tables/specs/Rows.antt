-- What the rows of a ledger's keeper say. A row that has not its form says nothing; where the
-- tables stand for a history there is none.
use Rattle.std.specs.Prelude.{ℕ, ◌+◌, List, Option, Some, None, Result, Ok, Err}
use Rattle.dh_base.specs.declared.base_fault.BaseFault.{BaseFault}
use Rattle.dh_base.specs.declared.id.Id.{Id}
use Rattle.dh_base.specs.Fields.{id_at, name_at}
use Rattle.keeper_core.specs.declared.row.Row.{Row}
use Rattle.ledger_rows.specs.declared.free_amount.FreeAmount.{FreeAmount}
use Rattle.ledger_rows.specs.declared.hold.Hold.{Hold}
use Rattle.ledger_rows.specs.declared.registration.Registration.{Registration}
use Rattle.ledger_rows.specs.RowValues.{free_in, hold_in, registration_in}
use Rattle.house_tables.specs.declared.rows.FreeRow.{FreeRow}
use Rattle.house_tables.specs.declared.rows.HoldRow.{HoldRow}
use Rattle.house_tables.specs.declared.rows.DealRow.{DealRow}

-- an account and an asset
abbrev pub AssetKey : Type 0
AssetKey = Id × List ℕ

abbrev pub with_asset : Id → Result (List ℕ) BaseFault → Option AssetKey
with_asset account (Ok asset) = Some (account, asset)
with_asset account (Err fault) = None

abbrev pub with_account : List ℕ → ℕ → Result Id BaseFault → Option AssetKey
with_account key at (Ok account) = with_asset account (name_at key (at + 32))
with_account key at (Err fault) = None

-- the account and the asset that stand at that place of a key
abbrev pub asset_key : List ℕ → ℕ → Option AssetKey
asset_key key at = with_account key at (id_at key at)

-- ---- free amounts

abbrev pub free_at : Option AssetKey → FreeAmount → Option FreeRow
free_at None free = None
free_at (Some at) free = Some (record { account = at.0; asset = at.1; amount = free.amount })

abbrev pub free_with : List ℕ → Option FreeAmount → Option FreeRow
free_with key None = None
free_with key (Some free) = free_at (asset_key key 0) free

abbrev pub free_read : Row → Option FreeRow
free_read row = free_with row.key (free_in row.val)

-- ---- holds

abbrev pub hold_of : AssetKey → Hold → Result Id BaseFault → Option HoldRow
hold_of at hold (Err fault) = None
hold_of at hold (Ok deal) =
    Some (record {
      deal = deal;
      account = at.0;
      asset = at.1;
      commit = hold.commit;
      abort = hold.abort;
    })

abbrev pub hold_at : List ℕ → Option AssetKey → Hold → Option HoldRow
hold_at key None hold = None
hold_at key (Some at) hold = hold_of at hold (id_at key 0)

abbrev pub hold_with : List ℕ → Option Hold → Option HoldRow
hold_with key None = None
hold_with key (Some hold) = hold_at key (asset_key key 32) hold

abbrev pub hold_read : Row → Option HoldRow
hold_read row = hold_with row.key (hold_in row.val)

-- ---- deals

abbrev pub deal_of : Registration → Result Id BaseFault → Option DealRow
deal_of registration (Err fault) = None
deal_of registration (Ok deal) = Some (record { deal = deal; settled = registration.settled })

abbrev pub deal_with : List ℕ → Option Registration → Option DealRow
deal_with key None = None
deal_with key (Some registration) = deal_of registration (id_at key 0)

abbrev pub deal_read : Row → Option DealRow
deal_read row = deal_with row.key (registration_in row.val)
