use Rattle.std.proofs.Common.{◌≡◌, drop}
use Rattle.std.specs.List.{find}
use Rattle.joined_deals.specs.Agents.{is_of_id}
use Rattle.agent_core.proofs.state.joined_in.Given as goal

abbrev pub invariant-loop-joined : goal.invariant-loop-joined
invariant-loop-joined l = find (is_of_id l.id) (drop l.joined-index l.deals) ≡ find (is_of_id l.id) l.deals
