-- What the refusals of this crate tell.
use Rattle.std.specs.Prelude.{List, [], ◌∷◌, codes}
use Rattle.dh_base.specs.Refusals.{Told, told_of, field_of}
use Rattle.dh_base.specs.declared.refusal.FieldValue.TheVariants.{Hash, Number}
use Rattle.key_ring.specs.EnvFaults.{env_fault_told}
use Rattle.act_text.specs.ActFaults.{act_fault_told}
use Rattle.deal_core.specs.DealFaults.{deal_fault_told}
use Rattle.vote_log.specs.LogFaults.{log_fault_told}
use Rattle.deal_log.specs.declared.admit_fault.AdmitFault.{AdmitFault}
use Rattle.deal_log.specs.declared.admit_fault.AdmitFault.TheVariants.{BadEnvelope, BadAct, BadDeal, WrongHouse, Refused}
use Rattle.deal_log.specs.declared.rebuild_fault.RebuildFault.{RebuildFault}
use Rattle.deal_log.specs.declared.rebuild_fault.RebuildFault.TheVariants.{BadRecords, TextMissing, NoMemory}

abbrev pub admit_fault_told : AdmitFault → List Told
admit_fault_told (BadEnvelope fault) = told_of 1 (codes "BadEnvelope") [] ∷ env_fault_told fault
admit_fault_told (BadAct fault) = told_of 2 (codes "BadAct") [] ∷ act_fault_told fault
admit_fault_told (BadDeal fault) = told_of 3 (codes "BadDeal") [] ∷ deal_fault_told fault
admit_fault_told (WrongHouse named) =
    told_of 4 (codes "WrongHouse") (field_of (codes "named") (Hash named) ∷ []) ∷ []
admit_fault_told (Refused fault) = log_fault_told fault

abbrev pub rebuild_fault_told : RebuildFault → List Told
rebuild_fault_told (BadRecords at) =
    told_of 1 (codes "BadRecords") (field_of (codes "at") (Number at) ∷ []) ∷ []
rebuild_fault_told (TextMissing at) =
    told_of 2 (codes "TextMissing") (field_of (codes "at") (Number at) ∷ []) ∷ []
rebuild_fault_told NoMemory = told_of 3 (codes "NoMemory") [] ∷ []
