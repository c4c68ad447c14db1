use Rattle.compliant_deals.proofs.Decided.{commits_decide}
use Rattle.compliant_deals.proofs.laws.all_commits_decide.Goals as goal

pub returns : goal.returns
returns c = λ log deal parties some h. commits_decide log deal parties h (c.first_decisive.ensures.none log deal).0 (λ place outcome. (c.first_decisive.ensures.some log deal place outcome).0) some
