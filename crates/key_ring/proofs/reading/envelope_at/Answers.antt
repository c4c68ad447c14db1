use Rattle.std.proofs.Common.{Ok, arith}
use Rattle.dh_base.specs.Fields.{AreBytes}
use Rattle.key_ring.specs.EnvelopeTexts.{IsReadAt, envelope_from}
use Rattle.key_ring.proofs.EnvelopeFields.{stands-envelope, envelope-stands, IfOk-given, Gives-same}
use Rattle.key_ring.proofs.reading.envelope_at.Goals as goal

pub returns-clause-found : goal.returns-clause-found
returns-clause-found c =
    let are : AreBytes c.args.bytes.now = λ i. omega (arith, c.type_inv.bytes i) in
    IfOk-given (IsReadAt c.args.bytes.now c.args.at) c.take_envelope.result (envelope_from c.args.bytes.now c.args.at) (λ read e. stands-envelope c.args.bytes.now c.args.at read are e) c.take_envelope.ensures

pub returns-clause-only : goal.returns-clause-only
returns-clause-only c = λ read is. Gives-same c.take_envelope.result (envelope_from c.args.bytes.now c.args.at) (Ok read) (envelope-stands c.args.bytes.now c.args.at read is) c.take_envelope.ensures
