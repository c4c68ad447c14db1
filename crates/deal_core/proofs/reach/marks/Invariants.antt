use Rattle.deal_core.proofs.Walks.{IsMarking, unmarked}
use Rattle.deal_core.proofs.reach.marks.Given as goal

abbrev pub invariant-loop-party : goal.invariant-loop-party
invariant-loop-party l = IsMarking l.way l.steps l.marks

abbrev pub decreases-loop-party : goal.decreases-loop-party
decreases-loop-party l = unmarked l.marks
