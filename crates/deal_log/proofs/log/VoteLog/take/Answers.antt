use Rattle.std.proofs.Common.{ap, sym, ◌∙◌}
use Rattle.deal_log.specs.declared.posting.Posting.TheVariants.{Start, Vote}
use Rattle.deal_log.specs.VoteLogs.{ask_refusal}
use Rattle.deal_log.proofs.Kept.{undoable}
use Rattle.deal_log.proofs.log.VoteLog.take.Goals as goal

pub returns-in-Start-clause-undoable : goal.returns-in-Start-clause-undoable
returns-in-Start-clause-undoable c =
    undoable c.args.self.now c.add_start.new.self (Start c.in-Start.account c.in-Start.text) c.add_start.result
    (ap (ask_refusal c.args.self.now) (sym c.in-Start.is) ∙ (sym c.ask_refusal.ensures.value ∙ c.in_default.is)) c.add_start.ensures.kept c.add_start.ensures.ok

pub returns-in-Vote-clause-undoable : goal.returns-in-Vote-clause-undoable
returns-in-Vote-clause-undoable c =
    undoable c.args.self.now c.add_vote.new.self (Vote c.in-Vote.account c.in-Vote.choice c.in-Vote.index c.in-Vote.deal) c.add_vote.result
    (ap (ask_refusal c.args.self.now) (sym c.in-Vote.is) ∙ (sym c.ask_refusal.ensures.value ∙ c.in_default.is)) c.add_vote.ensures.kept c.add_vote.ensures.ok
