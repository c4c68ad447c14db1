-- The tables of a ledger, and the keys of their rows: how each is spelled, and what is read of it.
use Rattle.std.specs.Prelude.{ℕ, ◌≡◌, ◌↔◌, ◌<◌, ◌≤◌, ◌^◌, ◌==◌, Bool, ◌&&◌, if◌then◌else◌, List, [], ◌∷◌, ◌++◌, length, take, drop, Option, Some, None, IsTrue}
use Rattle.std.specs.Int.{w32, w64, to_be_bytes, from_be_bytes}
use Rattle.std.specs.Str.{bytes_eq}
use Rattle.dh_base.specs.declared.id.Id.{Id}
use Rattle.dh_base.specs.Names.{is_name}
use Rattle.dh_base.specs.Fields.{AreBytes, name_field}

-- free amounts
abbrev pub free_tab : ℕ
free_tab = 2

-- registered deals
abbrev pub deal_tab : ℕ
deal_tab = 3

-- what parties hold in deals
abbrev pub hold_tab : ℕ
hold_tab = 4

-- how many transfers parties have made in deals
abbrev pub moves_tab : ℕ
moves_tab = 5

-- keys of accounts that have signed an accepted act
abbrev pub used_tab : ℕ
used_tab = 6

-- the history
abbrev pub entry_tab : ℕ
entry_tab = 7

-- ---- how keys are spelled

abbrev pub free_key : Id → List ℕ → List ℕ
free_key account asset = account.0 ++ name_field asset

abbrev pub deal_key : Id → List ℕ
deal_key deal = deal.0

abbrev pub hold_key : Id → Id → List ℕ → List ℕ
hold_key deal account asset = deal.0 ++ free_key account asset

abbrev pub moves_key : Id → Id → List ℕ
moves_key deal account = deal.0 ++ account.0

abbrev pub used_key : Id → ℕ → List ℕ
used_key account q = account.0 ++ to_be_bytes w32 q

abbrev pub entry_key : ℕ → List ℕ
entry_key number = to_be_bytes w64 number

-- ---- what is read of a key

-- an id from its first byte on
abbrev pub first_id : List ℕ → Id
first_id key = record { 0 = take 32 key }

abbrev pub behind_id : List ℕ → List ℕ
behind_id key = drop 32 key

-- the asset behind an account
abbrev pub asset_in : List ℕ → List ℕ
asset_in key = drop 33 key

-- the name that the bytes are, behind the number of its characters
abbrev pub name_in : List ℕ → Option (List ℕ)
name_in [] = None
name_in (len ∷ text) = if (len == length text) && is_name text then Some text else None

-- It spells an account and an asset.
abbrev pub is_free_key : List ℕ → Bool
is_free_key key =
    is_name (asset_in key) && bytes_eq key (free_key (first_id key) (asset_in key))

-- It spells a deal, an account and an asset.
abbrev pub is_hold_key : List ℕ → Bool
is_hold_key key =
    is_name (asset_in (behind_id key))
    && bytes_eq key
    (hold_key (first_id key) (first_id (behind_id key)) (asset_in (behind_id key)))

-- the number of a key of the account
abbrev pub number_in : List ℕ → ℕ
number_in key = from_be_bytes w32 (behind_id key)

-- It spells an account and the number of one of its keys.
abbrev pub is_used_key : List ℕ → Bool
is_used_key key = bytes_eq key (used_key (first_id key) (number_in key))

-- the account behind a deal, where nothing follows it
abbrev pub last_id : List ℕ → Id
last_id key = record { 0 = behind_id key }

-- ---- A key is read as what it is spelled from, and as nothing else.

abbrev pub FreeKeysRead : Type 0
FreeKeysRead = (key : List ℕ) (account : Id) (asset : List ℕ) →
    (IsTrue (is_free_key key) × (first_id key ≡ account) × (asset_in key ≡ asset))
    ↔ ((length account.0 ≡ 32) × IsTrue (is_name asset) × (key ≡ free_key account asset))

abbrev pub HoldKeysRead : Type 0
HoldKeysRead = (key : List ℕ) (deal account : Id) (asset : List ℕ) →
    (IsTrue (is_hold_key key) × (first_id key ≡ deal) × (first_id (behind_id key) ≡ account)
    × (asset_in (behind_id key) ≡ asset))
    ↔ ((length deal.0 ≡ 32) × (length account.0 ≡ 32) × IsTrue (is_name asset)
    × (key ≡ hold_key deal account asset))

abbrev pub MovesKeysRead : Type 0
MovesKeysRead = (key : List ℕ) (deal account : Id) →
    ((32 ≤ length key) × (first_id key ≡ deal) × (last_id key ≡ account))
    ↔ ((length deal.0 ≡ 32) × (key ≡ moves_key deal account))

abbrev pub UsedKeysRead : Type 0
UsedKeysRead = (key : List ℕ) (account : Id) (q : ℕ) → AreBytes key →
    (IsTrue (is_used_key key) × (first_id key ≡ account) × (number_in key ≡ q))
    ↔ ((length account.0 ≡ 32) × (q < 2 ^ 32) × (key ≡ used_key account q))
