use Rattle.std.proofs.Common.{ap, ◌∙◌}
use Rattle.key_ring.specs.Rings.{ring_of}
use Rattle.key_ring.proofs.RingTexts.{text-ring_of, ring_of-text}
use Rattle.key_ring.proofs.laws.rings_read.Goals as goal

pub returns : goal.returns
returns c = λ text ring are. (text-ring_of text ring are, λ (is, spelled). ap ring_of spelled ∙ ring_of-text ring is)
