use Rattle.claim_core.specs.ClaimReading.{record_from}
use Rattle.claim_core.proofs.Listed.{AreTaken}
use Rattle.claim_core.proofs.parts.take_more_records.Given as goal

abbrev pub invariant-loop-number : goal.invariant-loop-number
invariant-loop-number l = AreTaken record_from l.count l.bytes l.at l.number l.recs.items l.next
