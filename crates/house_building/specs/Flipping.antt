-- Envelopes with the lowest bit of the last byte of their signature changed.
use Rattle.std.specs.Prelude.{ℕ, List, slice_index, slice_index_or, slice_set, bit_xor, replicate}
use Rattle.key_ring.specs.declared.envelope.Envelope.{Envelope}
use Rattle.ots_core.specs.declared.ots_sig.OtsSig.{OtsSig}

-- the last element of a signature
abbrev pub last_element : OtsSig → List ℕ
last_element sig = slice_index_or sig.y 66 (replicate 32 0)

abbrev pub flipped_last : List ℕ → List ℕ
flipped_last element = slice_set element 31 (bit_xor (slice_index element 31) 1)

abbrev pub flipped_sig : OtsSig → OtsSig
flipped_sig sig = record sig { y = slice_set sig.y 66 (flipped_last (last_element sig)) }

abbrev pub flipped : Envelope → Envelope
flipped env = record env { sig = flipped_sig env.sig }
