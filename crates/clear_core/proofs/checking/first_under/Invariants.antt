use Rattle.std.proofs.Common.{◌≡◌, drop}
use Rattle.std.specs.List.{find}
use Rattle.clear_core.specs.TermsKept.{is_under}
use Rattle.clear_core.proofs.checking.first_under.Given as goal

abbrev pub invariant-loop-limit : goal.invariant-loop-limit
invariant-loop-limit l = find (is_under l.deal.steps l.party) (drop l.limit-index l.gets) ≡ find (is_under l.deal.steps l.party) l.gets
