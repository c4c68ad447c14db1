use Rattle.std.proofs.Common.{◌≡◌, Ok, arith}
use Rattle.dh_base.specs.Fields.{AreBytes}
use Rattle.claim_core.specs.ClaimTexts.{LinkFits, LinkHasText, link_text}
use Rattle.claim_core.specs.ClaimReading.{link_of}
use Rattle.claim_core.specs.declared.link.Link.{Link}
use Rattle.claim_core.proofs.Fitting.{link_has_text}
use Rattle.claim_core.proofs.Formats.{link_read}
use Rattle.claim_core.proofs.Listed.{IfOk-given, Gives-same}
use Rattle.claim_core.proofs.reading.read_link.Goals as goal

pub returns-clause-found : goal.returns-clause-found
returns-clause-found c =
    let are : AreBytes c.args.bytes.now = λ i. omega (arith, c.type_inv.bytes i) in
    IfOk-given (λ (link : Link). LinkFits link × (c.args.bytes.now ≡ link_text link)) c.take_whole_link.result (link_of c.args.bytes.now)
    (λ link. (link_read c.args.bytes.now link are).0) c.take_whole_link.ensures

pub returns-clause-only : goal.returns-clause-only
returns-clause-only c = λ link fits spelled.
    let are : AreBytes c.args.bytes.now = λ i. omega (arith, c.type_inv.bytes i) in
    Gives-same c.take_whole_link.result (link_of c.args.bytes.now) (Ok link) ((link_read c.args.bytes.now link are).1 (fits, spelled)) c.take_whole_link.ensures

pub returns-clause-writable : goal.returns-clause-writable
returns-clause-writable c =
    let are : AreBytes c.args.bytes.now = λ i. omega (arith, c.type_inv.bytes i) in
    IfOk-given LinkHasText c.take_whole_link.result (link_of c.args.bytes.now) (λ link e. link_has_text link ((link_read c.args.bytes.now link are).0 e).0) c.take_whole_link.ensures
