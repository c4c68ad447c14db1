-- Walks on all chains of a key: the numbers of the steps at which each begins and ends are `from`
-- and `to`.
use Rattle.std.specs.Prelude.{ℕ, ◌≡◌, ◌≢◌, ◌<◌, ◌≤◌, ◌+◌, ◌*◌, ◌-◌, List, [], ◌++◌, slice_index, slice_index_or}
use Rattle.std.specs.Int.{w32, to_be_bytes}
use Rattle.hash_lanes.specs.Texts.{IsStem}
use Rattle.ots_core.specs.Chains.{chain}
use Rattle.ots_core.specs.declared.key.Key.{Key}

-- the stem is that of the texts which are hashed at the steps of the key's chains
abbrev pub IsKey : Key → Type 0
IsKey key = IsStem key.stem (key.ident ++ to_be_bytes w32 key.q)

-- each goes forward, by at most 15 steps, of which each is a byte
pub record AreWays (from to : List ℕ) : Type 0 where
  pub forward : (i : ℕ) → i < 67 → slice_index from i ≤ slice_index to i
  pub few : (i : ℕ) → i < 67 → slice_index to i ≤ slice_index from i + 15
  pub bytes : (i : ℕ) → i < 67 → slice_index to i ≤ 256

-- where a chain stands in the order of their steps, and of their numbers where these are as many
abbrev pub place_of : List ℕ → List ℕ → ℕ → ℕ
place_of from to k = 67 * (slice_index to k - slice_index from k) + k

-- Of the chains whose places are below `seen` each has been walked or waits in the group, in a
-- place from `first` on and below `count`. The others' values are as before.
pub record IsUnderWay (ident : List ℕ) (q : ℕ) (from to : List ℕ) (before : List (List ℕ))
    (seen : ℕ) (group : List ℕ) (first count : ℕ) (after : List (List ℕ)) : Type 0 where
  pub order : first ≤ count
  pub waiting : (j : ℕ) → first ≤ j → j < count → place_of from to (slice_index group j) < seen
  pub as_before : (j : ℕ) → first ≤ j → j < count →
      slice_index_or after (slice_index group j) [] ≡ slice_index_or before (slice_index group j) []
  pub rest : (k : ℕ) → k < 67 → seen ≤ place_of from to k →
      slice_index_or after k [] ≡ slice_index_or before k []
  pub walked : (k : ℕ) → k < 67 → place_of from to k < seen
      → ((j : ℕ) → first ≤ j → j < count → slice_index group j ≢ k)
      → slice_index_or after k [] ≡ chain ident q k (slice_index from k) (slice_index to k)
      (slice_index_or before k [])
