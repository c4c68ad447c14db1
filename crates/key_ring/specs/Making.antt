-- What is made from the seed of a ring.
use Rattle.std.specs.Prelude.{ℕ, List, map}
use Rattle.std.specs.List.{range_with_len}
use Rattle.ots_core.specs.Keys.{public_key_of, signature_of}
use Rattle.key_ring.specs.Rings.{Ring, ring_text}
use Rattle.key_ring.specs.declared.envelope.Envelope.{Envelope}

-- the ring of that many keys
unfoldable pub ring_made : List ℕ → List ℕ → ℕ → Ring
ring_made seed ident size =
    record { ident = ident; keys = map (λ q. public_key_of seed ident q) (range_with_len 0 size) }

-- the envelope in which key q of that ring signs the message
abbrev pub envelope_made : List ℕ → List ℕ → ℕ → ℕ → List ℕ → Envelope
envelope_made seed ident size q message = record {
  ring = ring_text (ring_made seed ident size);
  q = q;
  sig = signature_of seed ident q message;
  message = message;
}
