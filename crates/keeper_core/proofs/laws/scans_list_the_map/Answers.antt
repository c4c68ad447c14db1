use Rattle.keeper_core.proofs.Scanned.{scans_list_the_map}
use Rattle.keeper_core.proofs.laws.scans_list_the_map.Goals as goal

pub returns : goal.returns
returns c = scans_list_the_map
