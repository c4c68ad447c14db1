use Rattle.std.proofs.Common.{Some, ap, sym, ◌∙◌, subst}
use Rattle.vote_log.specs.Log.{Log}
use Rattle.deal_log.specs.VoteLogs.{VoteLogTold}
use Rattle.deal_log.proofs.Kept.{IsKeptWith, kept_start, taken_back}
use Rattle.deal_log.proofs.log.VoteLog.add_start.Goals as goal

pub invariant_of-self-in-Ok : goal.invariant_of-self-in-Ok
invariant_of-self-in-Ok c =
    kept_start c.self.inside.house c.self.inside.records c.add.new.self c.self.inside.texts c.put.new.self c.args.text c.start.result c.self.invariant c.start.ensures.kept
    (c.requires ∙ ap (λ (l : VoteLogTold). Some l.house) (sym c.self.view_is)) c.start.ensures.value c.in_ok-at.ensures.ok.0 c.in_ok-at.ensures.ok.1 c.in-Ok.ensures.ok

pub invariant_of-self-in-Err : goal.invariant_of-self-in-Err
invariant_of-self-in-Err c =
    let back = taken_back c.self.inside.records c.add.new.self c.take_back.new.self c.start.result c.take_back.result c.in_ok-at.ensures.ok.1 c.take_back.ensures.taken in
    subst (λ (l : Log). IsKeptWith c.self.inside.house l c.put.new.self) (sym back)
    (subst (IsKeptWith c.self.inside.house c.self.inside.records) (sym c.in-Err.ensures.unchanged) c.self.invariant)
