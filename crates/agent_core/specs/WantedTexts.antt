-- Which text of a joined deal is wanted, and why it is not signed.
use Rattle.std.specs.Prelude.{ℕ, if◌then◌else◌, List, slice_get, Option, Some, None, is_none}
use Rattle.dh_base.specs.declared.id.Id.{Id}
use Rattle.joined_deals.specs.DealTexts.{JoinedTold, plan_texts, start_text, vote_text}
use Rattle.joined_deals.specs.declared.agent_fault.AgentFault.{AgentFault}
use Rattle.joined_deals.specs.declared.agent_fault.AgentFault.TheVariants.{NotJoined}
use Rattle.joined_deals.specs.Agents.{AgentTold}
use Rattle.joined_deals.specs.AgentCalls.{refusal_in, text_in}
use Rattle.agent_core.specs.declared.wanted.Wanted.{Wanted}
use Rattle.agent_core.specs.declared.wanted.Wanted.TheVariants.{Act, Start, Vote}

abbrev pub wanted_text : Wanted → JoinedTold → Option (List ℕ)
wanted_text (Act k) joined = slice_get (plan_texts joined) k
wanted_text Start joined = Some (start_text joined)
wanted_text (Vote choice) joined = Some (vote_text joined choice)

abbrev pub wanted_in : AgentTold → Id → Wanted → Option (List ℕ)
wanted_in agent deal wanted = text_in agent deal (wanted_text wanted)

-- the deal is not joined, or has no such act
abbrev pub wanted_refusal : AgentTold → Id → Wanted → Option AgentFault
wanted_refusal agent deal wanted =
    refusal_in agent deal (λ joined.
    if is_none (wanted_text wanted joined) then Some NotJoined else None)
