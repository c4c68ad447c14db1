use Rattle.std.proofs.Common.{◌≡◌, ◌++◌, take, map}
use Rattle.std.specs.Prelude.{string_bytes}
use Rattle.deal_core.specs.DealText.{party_words, lines_text}
use Rattle.deal_core.proofs.writing.write_parties.Given as goal

abbrev pub invariant-loop-party : goal.invariant-loop-party
invariant-loop-party l = string_bytes l.out ≡ string_bytes l.fn.out ++ lines_text (map party_words (take l.party-index l.parties))
