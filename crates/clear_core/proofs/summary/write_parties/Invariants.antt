use Rattle.std.proofs.Common.{◌≡◌, ◌++◌}
use Rattle.std.specs.Prelude.{string_bytes}
use Rattle.clear_core.specs.Summaries.{texts_below, party_text}
use Rattle.clear_core.proofs.summary.write_parties.Given as goal

abbrev pub invariant-loop-party : goal.invariant-loop-party
invariant-loop-party l = string_bytes l.out ≡ string_bytes l.fn.out ++ texts_below (party_text l.deal l.pairs) l.party
