-- What a row of the table of holds tells.
use Rattle.std.proofs.Common.{◌≡◌, ℕ, ◌<◌, ◌≤◌, ◌&&◌, Bool, true, false, if◌then◌else◌, List, length, drop, Option, Some, None, is_some, refl, sym, ap, ◌∙◌, arith}
use Rattle.std.proofs.lemmas.List.{length-drop, drop-drop}
use Rattle.dh_base.specs.declared.id.Id.{Id}
use Rattle.keeper_core.specs.declared.row.Row.{Row}
use Rattle.ledger_rows.specs.declared.hold.Hold.{Hold}
use Rattle.ledger_rows.specs.RowKeys.{hold_tab, first_id, behind_id, asset_in, name_in, is_hold_key}
use Rattle.ledger_rows.specs.RowReading.{is_formed}
use Rattle.ledger_rows.specs.RowValues.{hold_in}
use Rattle.ledger_rows.proofs.HeldRows.{name_spelled}
use Rattle.ledger_rows.proofs.RowForms.{free_key_by, short_free_key, hold_key_by}
use Rattle.ledger_claims.specs.Payees.{key_parts, owned_by, owned_in}

abbrev parts_if : List ℕ → Bool → Option (Id × (Id × List ℕ))
parts_if key good = if good then Some (first_id key, (first_id (behind_id key), asset_in (behind_id key))) else None

-- a key that is no longer than two ids
pub no_parts : (key : List ℕ) → length key ≤ 64 → key_parts key ≡ None
no_parts key short = ap (parts_if key) (sym (hold_key_by key) ∙ short_free_key (drop 32 key) (omega (arith, length-drop 32 key)))

-- a longer key is a hold's exactly where a name stands behind the ids
named_by : (key : List ℕ) → 64 < length key → is_hold_key key ≡ is_some (name_in (drop 64 key))
named_by key long =
    sym (hold_key_by key) ∙ sym (free_key_by (drop 32 key) (omega (arith, length-drop 32 key))) ∙ ap (λ (t : List ℕ). is_some (name_in t)) (drop-drop 32 32 key)

pub unnamed_parts : (key : List ℕ) → 64 < length key → name_in (drop 64 key) ≡ None → key_parts key ≡ None
unnamed_parts key long none = ap (parts_if key) (named_by key long ∙ ap (λ (o : Option (List ℕ)). is_some o) none)

pub named_parts : (key asset : List ℕ) → 64 < length key → name_in (drop 64 key) ≡ Some asset → key_parts key ≡ Some (first_id key, (first_id (drop 32 key), asset))
named_parts key asset long some =
    let spelled = name_spelled (drop 64 key) asset some in
    let behind : asset_in (behind_id key) ≡ asset = drop-drop 33 32 key ∙ sym (drop-drop 1 64 key) ∙ ap (drop 1) spelled.1 in
    ap (parts_if key) (named_by key long ∙ ap (λ (o : Option (List ℕ)). is_some o) some) ∙ (λ i. Some (first_id key, (first_id (drop 32 key), behind i)))

-- a row tells something exactly where it has its form
pub formed_by : (row : Row) → is_some (owned_in row) ≡ is_formed hold_tab row
formed_by row = go (is_hold_key row.key) (hold_in row.val)
  where
    go : (good : Bool) (hold : Option Hold) → is_some (owned_by (parts_if row.key good) hold) ≡ (is_some hold && good)
    go true None = refl
    go true (Some hold) = refl
    go false None = refl
    go false (Some hold) = refl
