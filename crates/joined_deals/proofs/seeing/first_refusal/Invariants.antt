use Rattle.std.proofs.Common.{◌≡◌, drop}
use Rattle.joined_deals.specs.AgentCalls.{first_refusal, owed_refusal}
use Rattle.joined_deals.proofs.seeing.first_refusal.Given as goal

abbrev pub invariant-loop-pair : goal.invariant-loop-pair
invariant-loop-pair l = first_refusal (owed_refusal l.heard l.joined) (drop l.pair-index l.pairs) ≡ first_refusal (owed_refusal l.heard l.joined) l.pairs
