use Rattle.std.proofs.Common.{Some}
use Rattle.vote_log.proofs.Tallied.{set_one}
use Rattle.vote_log.proofs.tallies.Tallies.put.Goals as goal

pub returns-in_ok-insert-in-Some-clause-ok : goal.returns-in_ok-insert-in-Some-clause-ok
returns-in_ok-insert-in-Some-clause-ok c =
    set_one c.args.deal.now c.args.self.now.by_deal c.insert.new.self c.args.tally (Some c.in-Some.tally) c.in-Some.is c.in_ok-insert-in-Some.ensures.updates
