use Rattle.clear_core.proofs.Moved.{pairs_ascend, pairs_moved, moved_in_pairs}
use Rattle.clear_core.proofs.laws.moved_pairs.Goals as goal

pub returns-clause-moved : goal.returns-clause-moved
returns-clause-moved c steps pair = (pairs_moved steps pair, moved_in_pairs steps pair)

pub returns-clause-ascend : goal.returns-clause-ascend
returns-clause-ascend c = pairs_ascend
