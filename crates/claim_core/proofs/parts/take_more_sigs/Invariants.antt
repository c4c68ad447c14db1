use Rattle.claim_core.specs.ClaimReading.{sig_from}
use Rattle.claim_core.proofs.Listed.{AreTaken}
use Rattle.claim_core.proofs.parts.take_more_sigs.Given as goal

abbrev pub invariant-loop-number : goal.invariant-loop-number
invariant-loop-number l = AreTaken sig_from l.count l.bytes l.at l.number l.sigs.items l.next
