use Rattle.std.proofs.Common.{IsSome, ap, ◌∙◌, subst}
use Rattle.vote_log.specs.Entry.{Entry}
use Rattle.vote_log.proofs.Tallied.{IsTakenBack, taken_back, tallied_back}
use Rattle.vote_log.proofs.records.Records.take_back.Goals as goal

known : (c : goal.After-after-1) → IsTakenBack c.pop.new.self.items c.self.inside.limit c.self.inside.owed c.copied-before.result c.tally_of-after.result c.in_ok-last.last c.self.inside.tallies
known c =
    taken_back c.pop.new.self.items c.self.inside.records.items c.as_slice.result.now c.self.inside.limit c.self.inside.owed c.self.inside.tallies c.last.inside.deal c.copied-before.result c.tally_of-after.result c.in_ok-last.last
    c.self.invariant c.in_ok-last.ensures.items (ap (λ (e : Entry). e.deal) c.last.view_is) (c.copied-before.ensures ∙ c.get.ensures) c.as_slice.ensures.value c.tally_of-after.ensures

pub owed_after-self-inside-requires-clause-part : goal.owed_after-self-inside-requires-clause-part
owed_after-self-inside-requires-clause-part c = (known c).owing.part

pub owed_after-self-inside-requires-clause-fits : goal.owed_after-self-inside-requires-clause-fits
owed_after-self-inside-requires-clause-fits c = (known c).fits

pub put_back-requires : goal.put_back-requires
put_back-requires c = λ some.
    subst IsSome (c.copied-before.ensures ∙ c.get.ensures)
    ((taken_back c.pop.new.self.items c.self.inside.records.items c.as_slice.result.now c.self.inside.limit c.self.inside.owed c.self.inside.tallies c.last.inside.deal c.copied-before.result c.tally_of-after.result c.in_ok-last.last
    c.self.invariant c.in_ok-last.ensures.items (ap (λ (e : Entry). e.deal) c.last.view_is) (c.copied-before.ensures ∙ c.get.ensures) c.as_slice.ensures.value c.tally_of-after.ensures).had some)

pub invariant_of-self-2 : goal.invariant_of-self-2
invariant_of-self-2 c =
    let same = ap (λ (e : Entry). e.deal) c.last.view_is in
    tallied_back c.pop.new.self.items c.self.inside.limit c.self.inside.owed c.owed_after-self-inside.result c.copied-before.result c.tally_of-after.result c.in_ok-last.last c.last.inside.deal c.self.inside.tallies c.put_back.new.self
    (taken_back c.pop.new.self.items c.self.inside.records.items c.as_slice.result.now c.self.inside.limit c.self.inside.owed c.self.inside.tallies c.last.inside.deal c.copied-before.result c.tally_of-after.result c.in_ok-last.last
    c.self.invariant c.in_ok-last.ensures.items same (c.copied-before.ensures ∙ c.get.ensures) c.as_slice.ensures.value c.tally_of-after.ensures)
    same c.put_back.ensures c.owed_after-self-inside.ensures
