use Rattle.std.proofs.Common.{ap, ◌∙◌, ◌++◌, ◌∷◌, []}
use Rattle.vote_log.specs.Entry.{Entry}
use Rattle.vote_log.specs.Log.{Log}
use Rattle.deal_log.proofs.Kept.{kept_vote}
use Rattle.deal_log.proofs.log.VoteLog.add_vote.Goals as goal

pub invariant_of-self-2 : goal.invariant_of-self-2
invariant_of-self-2 c =
    let with_last = λ (r : Entry). let l : Log = record c.self.inside.records { entries = c.self.inside.records.entries ++ r ∷ [] } in l in
    kept_vote c.self.inside.house c.self.inside.records c.add.new.self c.self.inside.texts c.args.choice c.args.index c.args.deal.now c.self.invariant
    (c.in_ok-at.ensures.ok.1 ∙ ap with_last c.vote.ensures)
