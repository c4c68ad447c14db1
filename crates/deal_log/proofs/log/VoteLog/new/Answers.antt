use Rattle.std.proofs.Common.{[], refl, sym, subst}
use Rattle.vote_log.specs.Log.{Log}
use Rattle.deal_log.specs.VoteLogs.{most_records}
use Rattle.deal_log.proofs.Kept.{IsKeptWith, no_texts}
use Rattle.deal_log.proofs.log.VoteLog.new.Goals as goal

pub invariant_of-result : goal.invariant_of-result
invariant_of-result c =
    let none : Log = record { entries = []; limit = most_records } in
    let own : IsKeptWith c.args.house.now none c.new-2.result = subst (IsKeptWith c.args.house.now none) (sym c.new-2.ensures) (refl, no_texts c.args.house.now) in
    subst (λ (l : Log). IsKeptWith c.args.house.now l c.new-2.result) (sym c.new.ensures) own
