-- What the holder of a name has in a rehearsal, where its keys are made from its name.
use Rattle.std.specs.Prelude.{ℕ, List, ◌++◌, take, codes}
use Rattle.sha2.specs.Sha256.{sha256}
use Rattle.dh_base.specs.declared.id.Id.{Id}
use Rattle.key_ring.specs.Rings.{Ring, ring_text}
use Rattle.key_ring.specs.Making.{ring_made, envelope_made}
use Rattle.key_ring.specs.declared.envelope.Envelope.{Envelope}

abbrev pub seed_of : List ℕ → List ℕ
seed_of name = sha256 (codes "CCDSEED1" ++ name)

abbrev pub ident_of : List ℕ → List ℕ
ident_of name = take 16 (sha256 (codes "CCDIDENT" ++ name))

-- the ring of that many keys
abbrev pub ring_of : List ℕ → ℕ → Ring
ring_of name size = ring_made (seed_of name) (ident_of name) size

-- the digest of the ring's text
abbrev pub account_of : List ℕ → ℕ → Id
account_of name size = record { 0 = sha256 (ring_text (ring_of name size)) }

-- the envelope in which the holder's key of number q signs the message
abbrev pub signed_of : List ℕ → ℕ → ℕ → List ℕ → Envelope
signed_of name size q message = envelope_made (seed_of name) (ident_of name) size q message
