use Rattle.claim_core.specs.ClaimReading.{link_from}
use Rattle.claim_core.proofs.Listed.{AreTaken}
use Rattle.claim_core.proofs.reading.take_more_links.Given as goal

abbrev pub invariant-loop-number : goal.invariant-loop-number
invariant-loop-number l = AreTaken link_from l.count l.bytes l.at l.number l.links.items l.next
