-- The answer of a check: as it is computed, and by its cases.
use Rattle.std.specs.Prelude.{ℕ, ◌≡◌, Bool, nat_le, if◌then◌else◌, [], length, slice_index_or, Result, Ok, Err}
use Rattle.std.specs.Str.{bytes_eq}
use Rattle.sha2.specs.Sha256.{sha256}
use Rattle.ots_core.specs.Keys.{ends_hash}
use Rattle.ots_core.specs.Validity.{completed_ends}
use Rattle.key_ring.specs.Rings.{Ring, ring_of}
use Rattle.key_ring.specs.Saying.{Says, IsKeyOutside, IsBadlySigned}
use Rattle.key_ring.specs.declared.envelope.Envelope.{Envelope}
use Rattle.key_ring.specs.declared.said.Said.{Said}
use Rattle.key_ring.specs.declared.env_fault.EnvFault.{EnvFault}
use Rattle.key_ring.specs.declared.env_fault.EnvFault.TheVariants.{BadForm, BadRing, KeyOutside, BadSignature, NoMemory}

abbrev pub IsAnswer : Envelope → Result Said EnvFault → Type 0
IsAnswer env (Ok said) = Says env said.account.0 said.q env.message
IsAnswer env (Err (BadRing at)) = ring_of env.ring ≡ Err at
IsAnswer env (Err (KeyOutside q n)) = IsKeyOutside env q n
IsAnswer env (Err BadSignature) = IsBadlySigned env
IsAnswer env (Err (BadForm at)) = ⊥
IsAnswer env (Err NoMemory) = ⊥

-- the signature is valid under the key of the envelope's number
abbrev pub is_signed_by : Ring → Envelope → Bool
is_signed_by ring env =
    bytes_eq (ends_hash ring.ident env.q (completed_ends ring.ident env.q env.message env.sig))
    (slice_index_or ring.keys env.q [])

-- What the envelope says of a ring that was read, or why it says nothing: the ring's text is looked
-- at first, then the key, then the signature.
abbrev pub said_with : Envelope → Result Ring ℕ → Result Said EnvFault
said_with env (Err at) = Err (BadRing at)
said_with env (Ok ring) =
    if nat_le (length ring.keys) env.q then Err (KeyOutside env.q (length ring.keys))
    else if is_signed_by ring env
    then Ok (record { account = record { 0 = sha256 env.ring }; q = env.q })
    else Err BadSignature

abbrev pub said_of : Envelope → Result Said EnvFault
said_of env = said_with env (ring_of env.ring)
