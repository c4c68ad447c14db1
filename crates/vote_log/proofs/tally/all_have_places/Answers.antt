use Rattle.std.proofs.Common.{get_or, None, is_some, sym, arith, rules}
use Rattle.vote_log.proofs.Below.{all_fails}
use Rattle.vote_log.proofs.tally.all_have_places.Goals as goal

pub returns-then-is_none : goal.returns-then-is_none
returns-then-is_none c = sym (all_fails (λ k. is_some (get_or c.args.committed.now k None)) c.loop-index.index c.args.parties (omega arith) (search rules))
