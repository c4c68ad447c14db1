-- What an envelope says: an account, a key number and a message; or why it says nothing.
use Rattle.std.specs.Prelude.{ℕ, ◌≡◌, ◌<◌, ◌≤◌, List, [], length, slice_index_or}
use Rattle.sha2.specs.Sha256.{sha256}
use Rattle.ots_core.specs.Validity.{IsOtsValid}
use Rattle.key_ring.specs.Rings.{Ring, IsRing, ring_text}
use Rattle.key_ring.specs.declared.envelope.Envelope.{Envelope}

-- The text of the envelope's ring has its form.
pub record HasRing (env : Envelope) : Type 0 where
  pub ring : Ring
  pub formed : IsRing ring
  pub spelled : env.ring ≡ ring_text ring

-- the signature is valid under the key of the envelope's number
abbrev pub IsSignedBy : Ring → Envelope → Type 0
IsSignedBy ring env = IsOtsValid ring.ident env.q
    (slice_index_or ring.keys env.q []) env.message env.sig

-- The envelope says the message under that key of that account.
pub record Says (env : Envelope) (account : List ℕ) (q : ℕ) (message : List ℕ) : Type 0 where
  pub has : HasRing env
  pub account_is : account ≡ sha256 env.ring
  pub q_is : q ≡ env.q
  pub key : q < length has.ring.keys
  pub message_is : message ≡ env.message
  pub signed : IsSignedBy has.ring env

-- The ring has n keys, and none of number q.
pub record IsKeyOutside (env : Envelope) (q n : ℕ) : Type 0 where
  pub has : HasRing env
  pub q_is : q ≡ env.q
  pub n_is : n ≡ length has.ring.keys
  pub outside : n ≤ q

-- The ring has the key, and the signature isn't valid under it.
pub record IsBadlySigned (env : Envelope) : Type 0 where
  pub has : HasRing env
  pub key : env.q < length has.ring.keys
  pub not_signed : ¬ (IsSignedBy has.ring env)
