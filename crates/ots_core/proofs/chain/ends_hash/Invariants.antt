use Rattle.std.proofs.Common.{◌++◌, [], map, get_or}
use Rattle.std.specs.Int.{w16, w32, to_be_bytes}
use Rattle.std.specs.List.{range_with_len, concat}
use Rattle.sha2.specs.Hashers.{Holds256}
use Rattle.ots_core.proofs.chain.ends_hash.Given as goal

abbrev pub invariant-loop-i : goal.invariant-loop-i
invariant-loop-i l = Holds256 l.hasher (l.ident ++ to_be_bytes w32 l.q ++ to_be_bytes w16 0x8080 ++ concat (map (λ i. get_or l.ends i []) (range_with_len 0 l.i)))
