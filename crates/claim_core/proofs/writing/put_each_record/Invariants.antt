use Rattle.std.proofs.Common.{◌≡◌, ◌++◌, take}
use Rattle.std.specs.List.{flat_map}
use Rattle.vote_log.specs.RecordTexts.{record_text}
use Rattle.claim_core.proofs.writing.put_each_record.Given as goal

abbrev pub invariant-loop-rec : goal.invariant-loop-rec
invariant-loop-rec l = l.out.items ≡ l.fn.out.items ++ flat_map record_text (take l.rec-index l.recs)
