use Rattle.std.proofs.Common.{rules, ◌≡◌, Some, Result, Err, sym, subst}
use Rattle.dh_base.specs.declared.id.Id.{Id}
use Rattle.ledger_rows.specs.ActChanges.{act_changes}
use Rattle.ledger_rows.specs.Entries.{digest_of}
use Rattle.ledger_rows.specs.RowKeys.{deal_tab}
use Rattle.ledger_acts.specs.declared.ledger_fault.LedgerFault.{LedgerFault}
use Rattle.ledger_acts.specs.LedgerStep.{text_refusal}
use Rattle.ledger_acts.specs.ByRows.{ActsByRows}
use Rattle.ledger_acts.specs.Registering.{registering, RegistersByRows}
use Rattle.ledger_acts.proofs.RegisterCalls.{text_names_none, text_refused, text_good}
use Rattle.ledger_acts.proofs.registering.register_by_rows.Goals as goal

pub returns-in_err-deal : goal.returns-in_err-deal
returns-in_err-deal g c =
    let signed = c.args.signed.now in
    let account = signed.account in
    let house = c.args.house.now in
    let text = c.args.text.now in
    let made = act_changes c.args.place.now.number account signed.q signed.message.now in
    let known = g.K.Keeper.known c.args.keeper.now in
    let fault = c.in_err-deal.field-0.0 in
    let examined = rw c.in_err-deal.was at c.deal_in.ensures in
    let is : c.from_residual.result ≡ Err fault = search rules in
    subst (λ (r : Result (Unit {0}) LedgerFault). RegistersByRows house account text c.args.place.now.acts made r known known) (sym is) (
      examined.0,
      examined.1,
      text_refused (text_refusal house account examined.0) (registering account (digest_of text) text c.args.place.now.acts made) fault known (text_names_none house account examined.0) examined.2,
    )

pub returns : goal.returns
returns g c =
    let signed = c.args.signed.now in
    let account = signed.account in
    let house = c.args.house.now in
    let text = c.args.text.now in
    let made = act_changes c.args.place.now.number account signed.q signed.message.now in
    let before = g.K.Keeper.known c.args.keeper.now in
    let after = g.K.Keeper.known c.put_deal.new.keeper in
    let examined = rw c.in_ok-deal.was at c.deal_in.ensures in
    let acted = subst (λ (deal : Id). ActsByRows 2 (Some deal_tab) (registering account deal text c.args.place.now.acts made) c.put_deal.result before after) examined.2.1 c.put_deal.ensures in
    (examined.0, examined.1, text_good (text_refusal house account examined.0) (registering account (digest_of text) text c.args.place.now.acts made) c.put_deal.result before after examined.2.0 acted)
