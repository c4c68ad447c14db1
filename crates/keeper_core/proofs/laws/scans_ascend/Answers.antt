use Rattle.keeper_core.proofs.Scanned.{scans_ascend}
use Rattle.keeper_core.proofs.laws.scans_ascend.Goals as goal

pub returns : goal.returns
returns c = scans_ascend
