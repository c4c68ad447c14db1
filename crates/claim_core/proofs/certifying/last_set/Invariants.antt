use Rattle.std.proofs.Common.{◌≡◌, drop}
use Rattle.cert_core.specs.Sets.{SetTold}
use Rattle.claim_core.specs.Chains.{ChainLeadsTo}
use Rattle.claim_core.specs.FirstBroken.{last_set}
use Rattle.claim_core.specs.Walks.{HasWalked}
use Rattle.claim_core.proofs.certifying.last_set.Given as goal

-- the links so far lead to the set
abbrev pub invariant-loop-number : goal.invariant-loop-number
invariant-loop-number l = record {
  exact : last_set l.house l.recs l.number l.set (drop l.number l.links) ≡ last_set l.house l.recs 0 l.genesis l.links;
  leads : (last : SetTold) → ChainLeadsTo l.house l.recs l.set (drop l.number l.links) last → ChainLeadsTo l.house l.recs l.genesis l.links last;
  epoch : l.set.epoch ≡ l.number;
  walked : HasWalked l.house l.recs l.walk;
}
