use Rattle.std.proofs.Common.{length}
use Rattle.joined_deals.proofs.deal_texts.+all_on_names.Given as goal

abbrev pub decreases-all_on_names : goal.decreases-all_on_names
decreases-all_on_names l = length l.steps.now
