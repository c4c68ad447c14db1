-- An act under a key: it acts once, and is answered by what is kept from then on.
use Rattle.std.specs.Prelude.{ℕ, ◌≡◌, if◌then◌else◌, List, [], ◌∷◌, ◌++◌, Option, Some, None}
use Rattle.std.specs.Option.{option_map, option_or}
use Rattle.dh_base.specs.declared.id.Id.{Id}
use Rattle.dh_base.specs.Ids.{same_id}
use Rattle.keeper_core.specs.declared.change.Change.{Change}
use Rattle.keeper_core.specs.Tables.{Tables}
use Rattle.ledger_rows.specs.declared.entry.Entry.{Entry}
use Rattle.ledger_rows.specs.declared.used_key.UsedKey.{UsedKey}
use Rattle.ledger_rows.specs.RowReading.{used_said, used_refusal}
use Rattle.ledger_acts.specs.declared.ledger_fault.LedgerFault.{LedgerFault}
use Rattle.ledger_acts.specs.declared.ledger_fault.LedgerFault.TheVariants.{KeyReused, Store}

-- ---- by what a key has signed

-- another message is refused, and the same one is not
abbrev pub reused : Id → UsedKey → Option LedgerFault
reused message used =
    if same_id message used.message then None else Some (KeyReused used.message)

-- the refusal under a key that has signed an accepted act, or else the other
abbrev pub by_key : Id → Option UsedKey → Option LedgerFault → Option LedgerFault
by_key message None refusal = refusal
by_key message (Some used) refusal = reused message used

-- the number that is kept under the key, or else the next
abbrev pub number_by : Option UsedKey → ℕ → ℕ
number_by None number = number
number_by (Some used) number = used.at

-- nothing is committed under a key that has signed an accepted act
abbrev pub batches_by : Option UsedKey → List (List Change) → List (List Change)
batches_by None batches = batches
batches_by (Some used) batches = []

abbrev pub entries_by : Option UsedKey → List Entry → Entry → List Entry
entries_by None entries entry = entries ++ entry ∷ []
entries_by (Some used) entries entry = entries

-- ---- by the tables

abbrev pub key_said : Option (Option UsedKey) → Option UsedKey
key_said None = None
key_said (Some used) = used

abbrev pub key_at : Id → ℕ → Tables → Option UsedKey
key_at account q tables = key_said (used_said account q tables)

abbrev pub once_refusal : Id → ℕ → Id → (Tables → Option LedgerFault) → Tables
    → Option LedgerFault
once_refusal account q message refusal tables =
    option_or (option_map Store (used_refusal account q tables))
    (by_key message (key_at account q tables) (refusal tables))

abbrev pub once_batches : Id → ℕ → (Tables → List (List Change)) → Tables → List (List Change)
once_batches account q batches tables = batches_by (key_at account q tables) (batches tables)

-- the number of the entry
abbrev pub IsOnceAnswer : Id → ℕ → ℕ → Tables → ℕ → Type 0
IsOnceAnswer account q number tables at = at ≡ number_by (key_at account q tables) number
