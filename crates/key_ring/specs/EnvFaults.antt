-- What the faults of envelopes tell.
use Rattle.std.specs.Prelude.{List, [], ◌∷◌, codes}
use Rattle.dh_base.specs.Refusals.{Told, told_of, field_of}
use Rattle.dh_base.specs.declared.refusal.FieldValue.TheVariants.{Number}
use Rattle.key_ring.specs.declared.env_fault.EnvFault.{EnvFault}
use Rattle.key_ring.specs.declared.env_fault.EnvFault.TheVariants.{BadForm, BadRing, KeyOutside, BadSignature, NoMemory}

abbrev pub env_fault_told : EnvFault → List Told
env_fault_told (BadForm at) =
    told_of 1 (codes "BadForm") (field_of (codes "at") (Number at) ∷ []) ∷ []
env_fault_told (BadRing at) =
    told_of 2 (codes "BadRing") (field_of (codes "at") (Number at) ∷ []) ∷ []
env_fault_told (KeyOutside q n) =
    told_of 3 (codes "KeyOutside")
    (field_of (codes "q") (Number q) ∷ field_of (codes "n") (Number n) ∷ []) ∷ []
env_fault_told BadSignature = told_of 4 (codes "BadSignature") [] ∷ []
env_fault_told NoMemory = told_of 5 (codes "NoMemory") [] ∷ []
