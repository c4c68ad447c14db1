use Rattle.std.proofs.Common.{◌≡◌, ◌≢◌, ap, sym, ◌∙◌}
use Rattle.std.specs.FinMap.{remove}
use Rattle.vote_log.specs.declared.kind.Kind.TheVariants.{Start}
use Rattle.vote_log.specs.Entry.{Entry}
use Rattle.deal_log.proofs.Kept.{start_undone, vote_undone, kept_back}
use Rattle.deal_log.proofs.log.VoteLog.take_back.Goals as goal

starts : (c : goal.After-remove) → c.in-Some.last.kind ≡ Start
starts c = ap (λ (r : Entry). r.kind) (sym c.last.view_is) ∙ c.in-Start.is

removed : (c : goal.After-remove) → c.remove.new.self ≡ remove c.self.inside.texts c.in-Some.last.deal.0
removed c = c.remove.ensures ∙ ap (λ (r : Entry). remove c.self.inside.texts r.deal.0) c.last.view_is

pub invariant_of-self : goal.invariant_of-self
invariant_of-self c =
    kept_back c.self.inside.house c.self.inside.records c.take_back.new.self c.self.inside.texts c.args.self.now c.in-Some.last c.self.view_is c.in-Some.ensures.taken c.remove.new.self c.self.invariant
    (start_undone c.self.inside.house c.self.inside.records c.take_back.new.self c.self.inside.texts c.args.self.now c.in-Some.last c.self.view_is c.in-Some.ensures.taken c.remove.new.self (starts c) (removed c)) c.requires

pub returns-in-Start : goal.returns-in-Start
returns-in-Start c =
    start_undone c.self.inside.house c.self.inside.records c.take_back.new.self c.self.inside.texts c.args.self.now c.in-Some.last c.self.view_is c.in-Some.ensures.taken c.remove.new.self (starts c) (removed c)

pub invariant_of-self-in-Some : goal.invariant_of-self-in-Some
invariant_of-self-in-Some c =
    let other : c.in-Some.last.kind ≢ Start = λ e. c.in_default-kind.not-Start (ap (λ (r : Entry). r.kind) c.last.view_is ∙ e) in
    kept_back c.self.inside.house c.self.inside.records c.take_back.new.self c.self.inside.texts c.args.self.now c.in-Some.last c.self.view_is c.in-Some.ensures.taken c.self.inside.texts c.self.invariant
    (vote_undone c.self.inside.house c.self.inside.records c.take_back.new.self c.self.inside.texts c.args.self.now c.in-Some.last c.self.view_is c.in-Some.ensures.taken other) c.requires
