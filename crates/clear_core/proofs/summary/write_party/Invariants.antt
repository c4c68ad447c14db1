use Rattle.std.proofs.Common.{◌≡◌, ◌++◌, take}
use Rattle.std.specs.Prelude.{string_bytes}
use Rattle.clear_core.specs.Summaries.{party_text}
use Rattle.clear_core.proofs.summary.write_party.Given as goal

abbrev pub invariant-loop-pair : goal.invariant-loop-pair
invariant-loop-pair l = string_bytes l.out ≡ string_bytes l.fn.out ++ party_text l.deal (take l.pair-index l.pairs) l.party
