use Rattle.std.proofs.Common.{[], ◌∷◌, ◌++◌, ap, ◌∙◌, rules}
use Rattle.vote_log.specs.Entry.{Entry}
use Rattle.vote_log.proofs.Tallied.{IsAdded, added, tallied_push}
use Rattle.vote_log.proofs.records.Records.add.Goals as goal

known : (c : goal.After-after-1) → IsAdded c.self.inside.records.items c.self.inside.limit c.self.inside.owed c.copied-before.result c.tally_after-after.result c.args.rec.now
known c =
    added c.self.inside.records.items c.self.inside.limit c.self.inside.owed c.len-place.result c.self.inside.tallies c.rec.inside.deal c.copied-before.result c.tally_after-after.result c.args.rec.now
    c.self.invariant c.tally_after-after.ensures.ranged (ap (λ (e : Entry). e.deal) c.rec.view_is) (search rules) (c.copied-before.ensures ∙ c.get.ensures) c.tally_after-after.ensures.value c.in_default.ensures

pub owed_after-owed-requires-clause-part : goal.owed_after-owed-requires-clause-part
owed_after-owed-requires-clause-part c = (known c).owing.part

pub owed_after-owed-requires-clause-fits : goal.owed_after-owed-requires-clause-fits
owed_after-owed-requires-clause-fits c = (known c).fits

pub invariant_of-self-in-Ok : goal.invariant_of-self-in-Ok
invariant_of-self-in-Ok c =
    let same = ap (λ (e : Entry). e.deal) c.rec.view_is in
    tallied_push c.self.inside.records.items c.push.new.self.items c.self.inside.limit c.self.inside.owed c.owed_after-owed.result c.copied-before.result c.tally_after-after.result c.args.rec.now c.rec.inside.deal c.self.inside.tallies c.put.new.self
    (added c.self.inside.records.items c.self.inside.limit c.self.inside.owed c.len-place.result c.self.inside.tallies c.rec.inside.deal c.copied-before.result c.tally_after-after.result c.args.rec.now
    c.self.invariant c.tally_after-after.ensures.ranged same (search rules) (c.copied-before.ensures ∙ c.get.ensures) c.tally_after-after.ensures.value c.in_default.ensures)
    c.self.invariant.stand same c.in-Ok.ensures.ok (c.in_ok-push.ensures.items ∙ ap (λ (e : Entry). c.self.inside.records.items ++ e ∷ []) c.rec.view_is) c.owed_after-owed.ensures
