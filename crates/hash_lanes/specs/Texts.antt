-- Texts that begin with the same bytes, and values of 32 bytes in lanes.
use Rattle.std.specs.Prelude.{ℕ, ◌≡◌, List, ◌∷◌, ◌++◌, length}
use Rattle.std.specs.Int.{w16, to_be_bytes}
use Rattle.sha2.specs.Sha256.{digest_bytes, first_words, initial_hash_256, rounds}
use Rattle.hash_lanes.specs.Lanes.{lane}
use Rattle.hash_lanes.specs.declared.stem.Stem.{Stem}

-- the bytes of the value in lane j
abbrev pub value_at : List (List ℕ) → ℕ → List ℕ
value_at values j = digest_bytes (lane j values) 8

-- the stem, a number in two bytes, a byte and a value
abbrev pub text_of : List ℕ → ℕ → ℕ → List ℕ → List ℕ
text_of stem i byte value = stem ++ to_be_bytes w16 i ++ (byte ∷ value)

-- the words of these 20 bytes, and the state after the rounds with them
pub record IsStem (stem : Stem) (bytes : List ℕ) : Type 0 where
  pub long : length bytes ≡ 20
  pub words : stem.words ≡ first_words bytes 5
  pub state : stem.state ≡ rounds initial_hash_256 (first_words bytes 5) 5
