use Rattle.std.proofs.Common.{◌≡◌, Ok, ap, ◌∙◌, arith}
use Rattle.dh_base.specs.Fields.{AreBytes}
use Rattle.key_ring.specs.EnvelopeTexts.{IsWithinLimits, envelope_text, envelope_of}
use Rattle.key_ring.specs.declared.envelope.Envelope.{Envelope}
use Rattle.key_ring.proofs.EnvelopeFields.{text-envelope_of, envelope_of-text, IfOk-given, Gives-same}
use Rattle.key_ring.proofs.reading.read_envelope.Goals as goal

pub returns-clause-found : goal.returns-clause-found
returns-clause-found c =
    let are : AreBytes c.args.bytes.now = λ i. omega (arith, c.type_inv.bytes i) in
    IfOk-given (λ (env : Envelope). IsWithinLimits env × (c.args.bytes.now ≡ envelope_text env)) c.take_whole.result (envelope_of c.args.bytes.now) (λ env e. text-envelope_of c.args.bytes.now env are e) c.take_whole.ensures

pub returns-clause-only : goal.returns-clause-only
returns-clause-only c = λ env limits spelled. Gives-same c.take_whole.result (envelope_of c.args.bytes.now) (Ok env) (ap envelope_of spelled ∙ envelope_of-text env limits) c.take_whole.ensures
