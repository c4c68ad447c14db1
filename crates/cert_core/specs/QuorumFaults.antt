-- What the faults of quorums tell.
use Rattle.std.specs.Prelude.{List, [], ◌∷◌, codes}
use Rattle.dh_base.specs.Refusals.{Told, told_of, field_of}
use Rattle.dh_base.specs.declared.refusal.FieldValue.TheVariants.{Number}
use Rattle.key_ring.specs.EnvFaults.{env_fault_told}
use Rattle.cert_core.specs.declared.quorum_fault.QuorumFault.{QuorumFault}
use Rattle.cert_core.specs.declared.quorum_fault.QuorumFault.TheVariants.{SeatOutside, SeatTwice, BadEnvelope, NotItsRing, OtherText, TooFew}

abbrev pub quorum_fault_told : QuorumFault → List Told
quorum_fault_told (SeatOutside seat) =
    told_of 1 (codes "SeatOutside") (field_of (codes "seat") (Number seat) ∷ []) ∷ []
quorum_fault_told (SeatTwice seat) =
    told_of 2 (codes "SeatTwice") (field_of (codes "seat") (Number seat) ∷ []) ∷ []
quorum_fault_told (BadEnvelope seat fault) =
    told_of 3 (codes "BadEnvelope") (field_of (codes "seat") (Number seat) ∷ [])
    ∷ env_fault_told fault
quorum_fault_told (NotItsRing seat) =
    told_of 4 (codes "NotItsRing") (field_of (codes "seat") (Number seat) ∷ []) ∷ []
quorum_fault_told (OtherText seat) =
    told_of 5 (codes "OtherText") (field_of (codes "seat") (Number seat) ∷ []) ∷ []
quorum_fault_told (TooFew counted needed) =
    told_of 6 (codes "TooFew")
    (field_of (codes "counted") (Number counted) ∷ field_of (codes "needed") (Number needed) ∷ [])
    ∷ []
