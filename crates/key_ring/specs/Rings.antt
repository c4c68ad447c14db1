-- Rings: the public keys of an account. The account is the hash of the ring's text.
use Rattle.std.specs.Prelude.{ℕ, ◌≡◌, ◌+◌, ◌*◌, ◌≤◌, ◌==◌, ◌||◌, nat_lt, if◌then◌else◌, suc, List, [], ◌∷◌, ◌++◌, length, take, drop, codes, Result, Ok, Err}
use Rattle.std.specs.Int.{w16, to_be_bytes, from_be_bytes}
use Rattle.std.specs.List.{concat, AllByRecursion}
use Rattle.dh_base.specs.Fields.{◌>>=◌}
use Rattle.ots_core.specs.SignatureText.{elements_of}

pub record Ring : Type 0 where
  pub ident : List ℕ
  pub keys : List (List ℕ)

abbrev pub ring_tag : List ℕ
ring_tag = codes "CCDRING1"

abbrev pub ring_text : Ring → List ℕ
ring_text ring = ring_tag ++ ring.ident ++ to_be_bytes w16 (length ring.keys) ++ concat ring.keys

-- the most keys of a ring
abbrev pub most_keys : ℕ
most_keys = 64

-- 1 to 64 keys
pub record IsRing (ring : Ring) : Type 0 where
  pub ident : length ring.ident ≡ 16
  pub some : 1 ≤ length ring.keys
  pub few : length ring.keys ≤ most_keys
  pub each : AllByRecursion (λ key. length key ≡ 32) ring.keys

-- how many bytes from the front on are those of the tag
abbrev pub shared_len : List ℕ → List ℕ → ℕ
shared_len [] text = 0
shared_len (t ∷ tag) [] = 0
shared_len (t ∷ tag) (b ∷ text) = if t == b then suc (shared_len tag text) else 0

-- how many keys a text says that it has
abbrev pub said_keys : List ℕ → ℕ
said_keys text = from_be_bytes w16 (take 2 (drop 24 text))

-- How many keys the ring of a text has; or the place of the text's first fault: the first byte that
-- differs from the tag, the number of keys where it is out of range, the text's end where it is
-- cut, the first byte too many.
unfoldable pub ring_size_of : List ℕ → Result ℕ ℕ
ring_size_of text =
    if nat_lt (shared_len ring_tag text) 8 then Err (shared_len ring_tag text)
    else if nat_lt (length text) 26 then Err (length text)
    else if said_keys text == 0 || nat_lt most_keys (said_keys text) then Err 24
    else if nat_lt (length text) (26 + 32 * said_keys text) then Err (length text)
    else if nat_lt (26 + 32 * said_keys text) (length text) then Err (26 + 32 * said_keys text)
    else Ok (said_keys text)

abbrev pub ring_of : List ℕ → Result Ring ℕ
ring_of text = ring_size_of text >>= λ size. Ok
    (record { ident = take 16 (drop 8 text); keys = elements_of size (drop 26 text) })
