use Rattle.std.proofs.Common.{◌≡◌, Some, ap, arith}
use Rattle.std.specs.Fmt.{styled_digits_output}
use Rattle.std.proofs.lemmas.Fmt as std
use Rattle.dh_base.specs.Spelled.{hex_byte}
use Rattle.dh_base.proofs.id.HexByteDisplay.fmt.Goals as goal

pub returns-clause-writes : goal.returns-clause-writes
returns-clause-writes g c =
    let written : styled_digits_output c.in_radix.result c.laid_out.result ≡ Some (hex_byte c.args.self.now.0) = rw (c.laid_out.ensures, c.in_radix.ensures) (ap Some (std.hex_byte _ c.args.self.now.0 (omega arith))) in
    rw written at c.write.ensures.writes
