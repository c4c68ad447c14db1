use Rattle.std.proofs.Common.{◌≡◌, drop}
use Rattle.std.specs.List.{position_from}
use Rattle.std.specs.Str.{bytes_eq}
use Rattle.key_ring.specs.Signers.{key_of}
use Rattle.key_ring.proofs.signer.Signer.key_of.Given as goal

abbrev pub invariant-loop-q : goal.invariant-loop-q
invariant-loop-q l = position_from (λ signed. bytes_eq signed l.text) l.q (drop l.q l.self.texts) ≡ key_of l.self l.text
