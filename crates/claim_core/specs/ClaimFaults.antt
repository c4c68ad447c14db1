-- What the faults of links and claims tell.
use Rattle.std.specs.Prelude.{List, [], ◌∷◌, codes}
use Rattle.dh_base.specs.Refusals.{Told, told_of, field_of}
use Rattle.dh_base.specs.declared.refusal.FieldValue.TheVariants.{Number, Hash}
use Rattle.cert_core.specs.SetFaults.{set_fault_told}
use Rattle.cert_core.specs.QuorumFaults.{quorum_fault_told}
use Rattle.claim_core.specs.declared.link_fault.LinkFault.{LinkFault}
use Rattle.claim_core.specs.declared.link_fault.LinkFault.TheVariants.{BadSet, WrongEpoch, HeadNotOnPath, BadQuorum as BadLinkQuorum}
use Rattle.claim_core.specs.declared.claim_fault.ClaimFault.{ClaimFault}
use Rattle.claim_core.specs.declared.claim_fault.ClaimFault.TheVariants.{BadChain, WrongHead, BadQuorum}
use Rattle.claim_core.specs.declared.read_claim_fault.ReadClaimFault.{ReadClaimFault}
use Rattle.claim_core.specs.declared.read_claim_fault.ReadClaimFault.TheVariants.{BadForm, NoMemory}

abbrev pub link_fault_told : LinkFault → List Told
link_fault_told (BadSet fault) = told_of 1 (codes "BadSet") [] ∷ set_fault_told fault
link_fault_told (WrongEpoch expected got) =
    told_of 2 (codes "WrongEpoch")
    (field_of (codes "expected") (Number expected) ∷ field_of (codes "got") (Number got) ∷ [])
    ∷ []
link_fault_told (HeadNotOnPath len) =
    told_of 3 (codes "HeadNotOnPath") (field_of (codes "len") (Number len) ∷ []) ∷ []
link_fault_told (BadLinkQuorum fault) = told_of 4 (codes "BadQuorum") [] ∷ quorum_fault_told fault

abbrev pub claim_fault_told : ClaimFault → List Told
claim_fault_told (BadChain link fault) =
    told_of 1 (codes "BadChain") (field_of (codes "link") (Number link) ∷ [])
    ∷ link_fault_told fault
claim_fault_told (WrongHead computed named) =
    told_of 2 (codes "WrongHead")
    (field_of (codes "computed") (Hash computed) ∷ field_of (codes "named") (Hash named) ∷ [])
    ∷ []
claim_fault_told (BadQuorum fault) = told_of 3 (codes "BadQuorum") [] ∷ quorum_fault_told fault

abbrev pub read_claim_fault_told : ReadClaimFault → List Told
read_claim_fault_told (BadForm at) =
    told_of 1 (codes "BadForm") (field_of (codes "at") (Number at) ∷ []) ∷ []
read_claim_fault_told NoMemory = told_of 2 (codes "NoMemory") [] ∷ []
