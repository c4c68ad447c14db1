use Rattle.std.specs.Int.{w8, w16, w32, w64}
use Rattle.dh_base.proofs.Fields.{taken, wide8, wide16, wide32, wide64}
use Rattle.dh_base.proofs.laws.numbers_taken.Goals as goal

pub returns : goal.returns
returns c = record { one_byte = taken w8 wide8; two_bytes = taken w16 wide16; four_bytes = taken w32 wide32; eight_bytes = taken w64 wide64 }
