use Rattle.std.proofs.Common.{take}
use Rattle.deal_log.specs.Rebuilding.{KeepsGiven}
use Rattle.deal_log.proofs.rebuilding.texts_of.Given as goal

abbrev pub invariant-loop-text : goal.invariant-loop-text
invariant-loop-text l = KeepsGiven l.house l.records.entries (take l.text-index l.texts) l.kept
