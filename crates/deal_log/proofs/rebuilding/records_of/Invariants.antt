use Rattle.std.proofs.Common.{◌≡◌, take}
use Rattle.vote_log.specs.Admission.{IsLog}
use Rattle.deal_log.specs.VoteLogs.{most_records}
use Rattle.deal_log.proofs.rebuilding.records_of.Given as goal

abbrev pub invariant-loop-at : goal.invariant-loop-at
invariant-loop-at l = record {
  is : l.records ≡ record { entries = take l.at l.recs; limit = most_records };
  reached : IsLog (take l.at l.recs) most_records;
}
