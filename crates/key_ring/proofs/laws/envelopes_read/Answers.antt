use Rattle.std.proofs.Common.{ap, ◌∙◌}
use Rattle.key_ring.specs.EnvelopeTexts.{envelope_of}
use Rattle.key_ring.proofs.EnvelopeFields.{text-envelope_of, envelope_of-text}
use Rattle.key_ring.proofs.laws.envelopes_read.Goals as goal

pub returns : goal.returns
returns c = λ bytes env are. (text-envelope_of bytes env are, λ (limits, spelled). ap envelope_of spelled ∙ envelope_of-text env limits)
