use Rattle.joined_deals.proofs.Validating.{validated, lacks_nothing}
use Rattle.joined_deals.proofs.laws.validated_exactly.Goals as goal

pub returns : goal.returns
returns c agent joined = (validated agent joined, lacks_nothing agent joined)
