-- What the parties of a deal do on one ledger when each does its part: one of them registers the
-- deal, all escrow what their plans escrow there, and the steps are made in their order.
use Rattle.std.specs.Prelude.{ℕ, zero, suc, if◌then◌else◌, List, [], ◌∷◌, ◌++◌, map, length}
use Rattle.std.specs.List.{flat_map}
use Rattle.std.specs.Str.{bytes_eq}
use Rattle.deal_core.specs.Deals.{DealTold}
use Rattle.deal_core.specs.declared.step.Step.{Step}
use Rattle.clear_core.specs.Plans.{plan_of, transfer_of}
use Rattle.clear_core.specs.declared.plan_act.PlanAct.{PlanAct}
use Rattle.clear_core.specs.declared.plan_act.PlanAct.TheVariants.{Register, Escrow, Transfer}

-- an act of the plan of the party of that index
pub record PartyAct : Type 0 where
  pub party : ℕ
  pub act : PlanAct

abbrev pub act_by : ℕ → PlanAct → PartyAct
act_by party act = record { party = party; act = act }

-- the act, where it is an escrow on the ledger
abbrev pub escrow_on : List ℕ → ℕ → PlanAct → List PartyAct
escrow_on ledger party Register = []
escrow_on ledger party (Escrow on asset amount) =
    if bytes_eq ledger on then act_by party (Escrow on asset amount) ∷ [] else []
escrow_on ledger party (Transfer on turn to asset amount) = []

-- the escrows of the first n parties there, party by party, each in the order of its plan
abbrev pub escrows_on : List Step → List ℕ → ℕ → List PartyAct
escrows_on steps ledger zero = []
escrows_on steps ledger (suc n) =
    escrows_on steps ledger n ++ flat_map (escrow_on ledger n) (plan_of steps n)

-- the sender's transfer of a step that stands behind those before, where it is on the ledger
abbrev pub transfer_on : List ℕ → List Step → Step → List PartyAct
transfer_on ledger before step =
    if bytes_eq ledger step.ledger
    then map (act_by step.from) (transfer_of step.from before step) else []

-- the transfers of the steps that stand behind those before
abbrev pub transfers_on : List ℕ → List Step → List Step → List PartyAct
transfers_on ledger before [] = []
transfers_on ledger before (step ∷ steps) =
    transfer_on ledger before step ++ transfers_on ledger (before ++ step ∷ []) steps

-- all that is done on the ledger up to the end of these first steps, where that party registers the
-- deal
abbrev pub acts_on : DealTold → List ℕ → ℕ → List Step → List PartyAct
acts_on deal ledger registrant steps =
    act_by registrant Register ∷ (escrows_on deal.steps ledger (length deal.parties)
    ++ transfers_on ledger [] steps)
