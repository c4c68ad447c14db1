use Rattle.std.proofs.Common.{◌≡◌, ◌++◌, map}
use Rattle.std.specs.Int.{w16, to_be_bytes}
use Rattle.std.specs.List.{range_with_len, concat}
use Rattle.ots_core.specs.Keys.{public_key_of}
use Rattle.key_ring.specs.Rings.{ring_tag}
use Rattle.key_ring.proofs.ring.make_ring.Given as goal

abbrev pub invariant-loop-q : goal.invariant-loop-q
invariant-loop-q l = l.ring.items ≡ ring_tag ++ l.spec.ident ++ to_be_bytes w16 l.spec.size ++ concat (map (λ q. public_key_of l.spec.seed l.spec.ident q) (range_with_len 0 l.q))
