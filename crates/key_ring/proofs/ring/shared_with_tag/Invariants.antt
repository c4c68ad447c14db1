use Rattle.std.proofs.Common.{◌≡◌, ◌≤◌, ◌+◌, drop, length}
use Rattle.key_ring.specs.Rings.{ring_tag, shared_len}
use Rattle.key_ring.proofs.ring.shared_with_tag.Given as goal

abbrev pub invariant-loop-place : goal.invariant-loop-place
invariant-loop-place l = record {
  tag : l.expected-items ≡ ring_tag;
  within : l.place ≤ length l.ring;
  shared : l.place + shared_len (drop l.place ring_tag) (drop l.place l.ring) ≡ shared_len ring_tag l.ring;
}
