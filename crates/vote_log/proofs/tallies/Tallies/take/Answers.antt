use Rattle.std.proofs.Common.{None, refl}
use Rattle.vote_log.proofs.Tallied.{set_one}
use Rattle.vote_log.proofs.tallies.Tallies.take.Goals as goal

pub returns : goal.returns
returns c = set_one c.args.deal.now c.args.self.now.by_deal c.remove.new.self None None refl c.remove.ensures.updates
