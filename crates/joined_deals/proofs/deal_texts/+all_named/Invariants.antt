use Rattle.std.proofs.Common.{length}
use Rattle.joined_deals.proofs.deal_texts.+all_named.Given as goal

abbrev pub decreases-all_named : goal.decreases-all_named
decreases-all_named l = length l.parties.now
