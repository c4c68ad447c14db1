-- A store in memory.
use Rattle.std.specs.Prelude.{ℕ, if◌then◌else◌, List, IsSome}
use Rattle.std.proofs.Common.{refl}
use Rattle.std.specs.Option.{unwrap_or}
use Rattle.std.specs.Ordering.{nat_cmp}
use Rattle.std.specs.Cmp.Lexicographic.{slice_cmp}
use Rattle.std.specs.Coded.{Coded, code_by, coded×, coded_ℕ, coded_list}
use Rattle.std.specs.FinMap.{FinMap, code, empty, get, insert, contains_key}
use Rattle.dh_base.specs.Calls.{CallsTold}
use Rattle.keeper_core.specs.Tables.{Tables, tables_code}
use Rattle.keeper_core.specs.Storing.{total_faults}

-- the maps of the names for which there is room
abbrev pub Maps : Type 0
Maps = FinMap (slice_cmp nat_cmp) Tables

pub record StoreTold : Type 0 where
  pub maps : Maps
  pub calls : CallsTold
  -- the faults of the keepers that came back
  pub returned : ℕ

abbrev pub calls_code : Coded CallsTold
calls_code = code_by (List ℕ × (ℕ × ℕ)) (coded× (coded_list coded_ℕ) (coded× coded_ℕ coded_ℕ))
    (λ c. (c.fails, (c.made, c.faults)))
    (λ p. record { fails = p.0; made = p.1.0; faults = p.1.1 }) (λ _. refl)

-- a store is stored as the tuple of its fields
abbrev pub store_code : Coded StoreTold
store_code = code_by (Maps × (CallsTold × ℕ))
    (coded× (code (coded_list coded_ℕ) tables_code) (coded× calls_code coded_ℕ))
    (λ s. (s.maps, (s.calls, s.returned)))
    (λ p. record { maps = p.0; calls = p.1.0; returned = p.1.1 }) (λ _. refl)

-- the map of a name, empty where nothing came back under it
abbrev pub map_in : Maps → List ℕ → Tables
map_in maps name = unwrap_or (get maps name) empty

abbrev pub has_room_in : Maps → List ℕ → Type 0
has_room_in maps name = IsSome (get maps name)

abbrev pub faults_of : StoreTold → ℕ
faults_of store = total_faults store.calls.faults store.returned

-- the maps with room for one of this name, which is empty if it is new
abbrev pub with_room_for : Maps → List ℕ → Maps
with_room_for maps name = if contains_key maps name then maps else insert maps name empty

-- the maps with this one under the name, if there is room for it
abbrev pub with_map : Maps → List ℕ → Tables → Maps
with_map maps name tables = if contains_key maps name then insert maps name tables else maps

-- the maps once the keeper of this name is out: there is room for its map, which is empty
abbrev pub with_map_out : Maps → List ℕ → Maps
with_map_out maps name = with_map (with_room_for maps name) name empty
