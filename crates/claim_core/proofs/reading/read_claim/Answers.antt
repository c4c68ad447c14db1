use Rattle.std.proofs.Common.{◌≡◌, Ok, arith}
use Rattle.dh_base.specs.Fields.{AreBytes}
use Rattle.claim_core.specs.Limits.{IsSmall}
use Rattle.claim_core.specs.ClaimTexts.{ClaimFits, ClaimHasText, claim_text}
use Rattle.claim_core.specs.ClaimReading.{claim_of}
use Rattle.claim_core.specs.declared.claim.Claim.{Claim}
use Rattle.claim_core.proofs.Fitting.{claim_has_text, claim_is_small}
use Rattle.claim_core.proofs.Formats.{claim_read}
use Rattle.claim_core.proofs.Listed.{IfOk-given, Gives-same}
use Rattle.claim_core.proofs.reading.read_claim.Goals as goal

pub returns-clause-found : goal.returns-clause-found
returns-clause-found c =
    let are : AreBytes c.args.bytes.now = λ i. omega (arith, c.type_inv.bytes i) in
    IfOk-given (λ (claim : Claim). ClaimFits claim × (c.args.bytes.now ≡ claim_text claim)) c.take_whole_claim.result (claim_of c.args.bytes.now)
    (λ claim. (claim_read c.args.bytes.now claim are).0) c.take_whole_claim.ensures

pub returns-clause-only : goal.returns-clause-only
returns-clause-only c = λ claim fits spelled.
    let are : AreBytes c.args.bytes.now = λ i. omega (arith, c.type_inv.bytes i) in
    Gives-same c.take_whole_claim.result (claim_of c.args.bytes.now) (Ok claim) ((claim_read c.args.bytes.now claim are).1 (fits, spelled)) c.take_whole_claim.ensures

pub returns-clause-writable : goal.returns-clause-writable
returns-clause-writable c =
    let are : AreBytes c.args.bytes.now = λ i. omega (arith, c.type_inv.bytes i) in
    IfOk-given ClaimHasText c.take_whole_claim.result (claim_of c.args.bytes.now) (λ claim e. claim_has_text claim ((claim_read c.args.bytes.now claim are).0 e).0) c.take_whole_claim.ensures

pub returns-clause-small : goal.returns-clause-small
returns-clause-small c =
    let are : AreBytes c.args.bytes.now = λ i. omega (arith, c.type_inv.bytes i) in
    IfOk-given IsSmall c.take_whole_claim.result (claim_of c.args.bytes.now) (λ claim e. claim_is_small claim ((claim_read c.args.bytes.now claim are).0 e).0) c.take_whole_claim.ensures
