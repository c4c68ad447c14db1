-- The changes that let rows stand for what they are to stand for. A zero has no row.
use Rattle.std.specs.Prelude.{ℕ, ◌==◌, ◌&&◌, if◌then◌else◌, List}
use Rattle.dh_base.specs.declared.id.Id.{Id}
use Rattle.keeper_core.specs.declared.change.Change.{Change}
use Rattle.keeper_core.specs.declared.change.Change.TheVariants.{Put, Delete}
use Rattle.ledger_rows.specs.declared.hold.Hold.{Hold}
use Rattle.ledger_rows.specs.declared.registration.Registration.{Registration}
use Rattle.ledger_rows.specs.declared.used_key.UsedKey.{UsedKey}
use Rattle.ledger_rows.specs.declared.entry.Entry.{Entry}
use Rattle.ledger_rows.specs.RowKeys.{free_tab, deal_tab, hold_tab, moves_tab, used_tab, entry_tab, free_key, deal_key, hold_key, moves_key, used_key, entry_key}
use Rattle.ledger_rows.specs.RowValues.{free_text, registration_text, hold_text, moves_text, used_text, entry_text}

abbrev pub free_change : Id → List ℕ → ℕ → Change
free_change account asset amount =
    if amount == 0 then Delete free_tab (free_key account asset)
    else Put free_tab (free_key account asset) (free_text (record { amount = amount }))

abbrev pub deal_change : Id → Registration → Change
deal_change deal registration = Put deal_tab (deal_key deal) (registration_text registration)

abbrev pub hold_change : Id → Id → List ℕ → Hold → Change
hold_change deal account asset hold =
    if (hold.commit == 0) && (hold.abort == 0) then Delete hold_tab (hold_key deal account asset)
    else Put hold_tab (hold_key deal account asset) (hold_text hold)

abbrev pub moves_change : Id → Id → ℕ → Change
moves_change deal account count =
    if count == 0 then Delete moves_tab (moves_key deal account)
    else Put moves_tab (moves_key deal account) (moves_text (record { count = count }))

abbrev pub used_change : Id → ℕ → UsedKey → Change
used_change account q used = Put used_tab (used_key account q) (used_text used)

abbrev pub entry_change : ℕ → Entry → Change
entry_change number entry = Put entry_tab (entry_key number) (entry_text entry)
