use Rattle.std.proofs.Common.{◌≡◌, drop}
use Rattle.std.specs.List.{position_from}
use Rattle.deal_log.specs.Rebuilding.{is_unkept}
use Rattle.deal_log.proofs.rebuilding.first_unkept.Given as goal

abbrev pub invariant-loop-at : goal.invariant-loop-at
invariant-loop-at l =
    position_from (is_unkept l.records.entries l.kept) l.at (drop l.at l.recs) ≡ position_from (is_unkept l.records.entries l.kept) 0 l.recs
