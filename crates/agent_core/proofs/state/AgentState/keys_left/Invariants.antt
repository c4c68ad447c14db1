use Rattle.std.proofs.Common.{◌≡◌, ◌-◌, length, take}
use Rattle.joined_deals.specs.Signed.{unsigned_in}
use Rattle.agent_core.proofs.state.AgentState.keys_left.Given as goal

abbrev pub invariant-loop-joined : goal.invariant-loop-joined
invariant-loop-joined l = l.left ≡ l.self.signer.spec.size - length l.self.signer.texts - unsigned_in l.self.signer.texts (take l.joined-index l.self.deals.items)
