-- What the faults of deal texts tell.
use Rattle.std.specs.Prelude.{ℕ, List, [], ◌∷◌, codes}
use Rattle.dh_base.specs.Refusals.{Told, told_of, field_of}
use Rattle.dh_base.specs.declared.refusal.FieldValue.TheVariants.{Number}
use Rattle.deal_core.specs.declared.deal_fault.DealFault.{DealFault}
use Rattle.deal_core.specs.declared.deal_fault.DealFault.TheVariants.{BadLine, PartyTwice, UnknownParty, SelfStep, ZeroAmount, TooMany, SumTooLarge, NotConnected, NoMemory}

-- what a fault tells whose one field is the line
abbrev pub line_told : ℕ → List ℕ → ℕ → List Told
line_told number name line = told_of number name (field_of (codes "line") (Number line) ∷ []) ∷ []

abbrev pub deal_fault_told : DealFault → List Told
deal_fault_told (BadLine line) = line_told 1 (codes "BadLine") line
deal_fault_told (PartyTwice line) = line_told 2 (codes "PartyTwice") line
deal_fault_told (UnknownParty line) = line_told 3 (codes "UnknownParty") line
deal_fault_told (SelfStep line) = line_told 4 (codes "SelfStep") line
deal_fault_told (ZeroAmount line) = line_told 5 (codes "ZeroAmount") line
deal_fault_told (TooMany line) = line_told 6 (codes "TooMany") line
deal_fault_told (SumTooLarge line) = line_told 7 (codes "SumTooLarge") line
deal_fault_told (NotConnected party) =
    told_of 8 (codes "NotConnected") (field_of (codes "party") (Number party) ∷ []) ∷ []
deal_fault_told NoMemory = told_of 9 (codes "NoMemory") [] ∷ []
