use Rattle.std.proofs.Common.{ap, ◌∙◌}
use Rattle.deal_core.specs.Drafts.{reading_of}
use Rattle.deal_core.proofs.OneDeal.{one_deal}
use Rattle.deal_core.proofs.reading.read_deal.Goals as goal

pub returns-clause-only : goal.returns-clause-only
returns-clause-only c deal kept good spelled =
    one_deal c.args.text.now deal c.read.result kept spelled (ap reading_of spelled ∙ c.only.ensures deal kept good) c.read.ensures
