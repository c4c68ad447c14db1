use Rattle.std.proofs.Common.{◌≡◌, Ok, Err, sym, ap, subst}
use Rattle.ledger_claims.specs.Claiming.{AcceptsClaim}
use Rattle.ledger_core.specs.Claims.{with_reply, ClaimsFrom}
use Rattle.ledger_core.specs.Ledgers.{LedgerTold}
use Rattle.ledger_core.proofs.Claimed.{own_accepted, refused_claim, answered_claim}
use Rattle.ledger_core.proofs.ledger.Ledger.claim.Goals as goal

pub returns-in-Err-clause-step : goal.returns-in-Err-clause-step
returns-in-Err-clause-step g c =
    refused_claim c.args.self.now c.args.deal.now c.args.shown.now (g.K.Keeper.known c.args.self.now.keeper) (g.K.Keeper.known c.claim.new.keeper) c.wide.ensures
    c.first_set-genesis.result c.next_number-number.result (g.K.Keeper.known c.self.inside.keeper) c.first_set-genesis.ensures c.next_number-number.ensures
    (ap (λ (l : LedgerTold g.row.K.Denot). g.K.Keeper.known l.keeper) c.self.view_is) _ c.in-Err.fault c.in-Err.ensures.step

pub returns-in-Ok-clause-step : goal.returns-in-Ok-clause-step
returns-in-Ok-clause-step g c =
    let old = c.args.self.now in
    let deal = c.args.deal.now in
    let claim = c.args.shown.now in
    let reply = c.in-Ok.reply in
    let note = c.note_reply.ensures in
    let now = c.note_reply.new.self in
    subst (λ k. ClaimsFrom old now deal claim (Ok reply) (g.K.Keeper.known old.keeper) (g.K.Keeper.known k)) (sym note.named.2)
    (answered_claim old deal claim (g.K.Keeper.known old.keeper) (g.K.Keeper.known c.claim.new.keeper) c.wide.ensures
    c.first_set-genesis.result c.next_number-number.result (g.K.Keeper.known c.self.inside.keeper) c.first_set-genesis.ensures c.next_number-number.ensures
    (ap (λ (l : LedgerTold g.row.K.Denot). g.K.Keeper.known l.keeper) c.self.view_is) now c.claim.new.keeper reply
    (subst (λ (l : LedgerTold g.row.K.Denot). now ≡ with_reply (record l { keeper = c.claim.new.keeper }) reply) c.self.view_is note.reply) c.in-Ok.ensures.step)

pub returns-in-Err-clause-accepts : goal.returns-in-Err-clause-accepts
returns-in-Err-clause-accepts g c =
    own_accepted c.first_set-genesis.result c.args.self.now.genesis c.args.deal.now c.args.shown.now (Err c.in-Err.fault) (g.K.Keeper.known c.self.inside.keeper) (g.K.Keeper.known c.args.self.now.keeper) (g.K.Keeper.known c.claim.new.keeper)
    c.first_set-genesis.ensures (ap (λ (l : LedgerTold g.row.K.Denot). g.K.Keeper.known l.keeper) c.self.view_is) c.in-Err.ensures.accepts

pub returns-in-Ok-clause-accepts : goal.returns-in-Ok-clause-accepts
returns-in-Ok-clause-accepts g c =
    let old = c.args.self.now in
    let deal = c.args.deal.now in
    let claim = c.args.shown.now in
    let reply = c.in-Ok.reply in
    subst (λ k. AcceptsClaim old.genesis deal claim (Ok reply) (g.K.Keeper.known old.keeper) (g.K.Keeper.known k)) (sym c.note_reply.ensures.named.2)
    (own_accepted c.first_set-genesis.result old.genesis deal claim (Ok reply) (g.K.Keeper.known c.self.inside.keeper) (g.K.Keeper.known old.keeper) (g.K.Keeper.known c.claim.new.keeper)
    c.first_set-genesis.ensures (ap (λ (l : LedgerTold g.row.K.Denot). g.K.Keeper.known l.keeper) c.self.view_is) c.in-Ok.ensures.accepts)
