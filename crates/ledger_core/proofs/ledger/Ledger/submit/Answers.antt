use Rattle.std.proofs.Common.{◌≡◌, ◌+◌, ◌-◌, ◌<◌, ◌≤◌, ◌^◌, Ok, Err, sym, ap, subst}
use Rattle.ledger_acts.specs.Steps.{SubmitsByStep}
use Rattle.ledger_core.specs.declared.act_reply.ActReply.TheVariants.{Done}
use Rattle.ledger_core.specs.Ledgers.{LedgerTold}
use Rattle.ledger_core.specs.Submits.{SubmitsFrom}
use Rattle.ledger_core.proofs.Submitting.{refused_from, accepted_from}
use Rattle.ledger_core.proofs.ledger.Ledger.submit.Goals as goal

pub returns-in-Err-clause-step : goal.returns-in-Err-clause-step
returns-in-Err-clause-step g c =
    let of = c.self.view_is in
    let place = c.next_place-place in
    refused_from c.args.self.now (record { name = c.self.inside.name; house = c.self.inside.house }) place.result c.args.env.now (g.K.Keeper.known c.args.self.now.keeper) (g.K.Keeper.known c.submit.new.keeper)
    (ap (λ (l : LedgerTold _). l.name) of, ap (λ (l : LedgerTold _). l.house) of) place.ensures.acts place.ensures.number _ c.in-Err.fault
    (subst (λ (l : LedgerTold _). SubmitsByStep (record { name = c.self.inside.name; house = c.self.inside.house }) place.result c.args.env.now (Err c.in-Err.fault) (g.K.Keeper.known l.keeper) (g.K.Keeper.known c.submit.new.keeper)) of c.in-Err.ensures.step)

pub returns-in-Ok-clause-step : goal.returns-in-Ok-clause-step
returns-in-Ok-clause-step g c =
    let of = c.self.view_is in
    let place = c.next_place-place in
    let at = c.in-Ok.at in
    let note = c.note_act.ensures in
    let now = c.note_act.new.self in
    subst (λ k. SubmitsFrom c.args.self.now now c.args.env.now (Ok (Done at)) (g.K.Keeper.known c.args.self.now.keeper) (g.K.Keeper.known k)) (sym note.named.2)
    (accepted_from c.args.self.now (record { name = c.self.inside.name; house = c.self.inside.house }) place.result c.args.env.now (g.K.Keeper.known c.args.self.now.keeper) (g.K.Keeper.known c.submit.new.keeper)
    (ap (λ (l : LedgerTold _). l.name) of, ap (λ (l : LedgerTold _). l.house) of) place.ensures.acts place.ensures.number now c.submit.new.keeper at
    (subst (λ (l : LedgerTold _). l.entries < at → l.acts < 2 ^ 32 - 1 → now ≡ record l { keeper = c.submit.new.keeper; entries = at; acts = l.acts + 1 }) of note.new)
    (subst (λ (l : LedgerTold _). at ≤ l.entries → now ≡ record l { keeper = c.submit.new.keeper }) of note.repeated)
    (subst (λ (l : LedgerTold _). SubmitsByStep (record { name = c.self.inside.name; house = c.self.inside.house }) place.result c.args.env.now (Ok at) (g.K.Keeper.known l.keeper) (g.K.Keeper.known c.submit.new.keeper)) of c.in-Ok.ensures.step))
