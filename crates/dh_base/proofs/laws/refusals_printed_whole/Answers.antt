use Rattle.std.proofs.Common.{List, ap, ◌++◌}
use Rattle.std.specs.List.{flat_map}
use Rattle.std.proofs.lemmas.List.{take_all}
use Rattle.dh_base.specs.Refusals.{Told, told_text, held_text}
use Rattle.dh_base.proofs.laws.refusals_printed_whole.Goals as goal

pub returns : goal.returns
returns c = λ own held few. ap (λ (tolds : List Told). told_text own ++ flat_map held_text tolds) (take_all 7 held few)
