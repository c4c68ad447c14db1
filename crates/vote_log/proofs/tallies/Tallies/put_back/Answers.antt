use Rattle.std.proofs.Common.{Some, rules}
use Rattle.vote_log.proofs.Tallied.{set_one}
use Rattle.vote_log.proofs.tallies.Tallies.put_back.Goals as goal

pub returns-in-Some-get_mut : goal.returns-in-Some-get_mut
returns-in-Some-get_mut c =
    set_one c.args.deal.now c.args.self.now.by_deal (c.get_mut.follows.lender c.in-Some.tally) c.args.tally (Some c.in-Some.tally) c.in-Some.is
    ((c.get_mut.follows.holds c.in-Some.tally).3 (c.requires (search rules)))
