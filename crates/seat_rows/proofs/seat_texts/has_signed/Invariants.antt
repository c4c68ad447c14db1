use Rattle.std.proofs.Common.{◌≡◌, drop}
use Rattle.std.specs.List.{position_from}
use Rattle.std.specs.Str.{bytes_eq}
use Rattle.key_ring.specs.Signers.{key_of}
use Rattle.seat_rows.proofs.seat_texts.has_signed.Given as goal

abbrev pub invariant-loop-q : goal.invariant-loop-q
invariant-loop-q l = position_from (λ signed. bytes_eq signed l.text) l.q (drop l.q l.signer.texts) ≡ key_of l.signer l.text
