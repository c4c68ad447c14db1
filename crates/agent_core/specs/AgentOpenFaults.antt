-- What the refusals to open an agent tell, and how a call ends by them.
use Rattle.std.specs.Prelude.{List, [], ◌∷◌, codes}
use Rattle.dh_base.specs.Refusals.{Told, told_of, field_of}
use Rattle.dh_base.specs.declared.refusal.FieldValue.TheVariants.{Hash}
use Rattle.keeper_core.specs.StoreFaults.{store_fault_told}
use Rattle.keeper_core.specs.Leaving.{Ended, refused, of_store_fault}
use Rattle.agent_core.specs.declared.agent_open_fault.AgentOpenFault.{AgentOpenFault}
use Rattle.agent_core.specs.declared.agent_open_fault.AgentOpenFault.TheVariants.{OtherAgent, Store}

abbrev pub agent_open_fault_told : AgentOpenFault → List Told
agent_open_fault_told (OtherAgent kept) =
    told_of 1 (codes "OtherAgent") (field_of (codes "kept") (Hash kept) ∷ []) ∷ []
agent_open_fault_told (Store fault) = told_of 2 (codes "Store") [] ∷ store_fault_told fault

abbrev pub of_open_fault : AgentOpenFault → Ended
of_open_fault (OtherAgent kept) = refused
of_open_fault (Store fault) = of_store_fault fault
