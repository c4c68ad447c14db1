use Rattle.std.proofs.Common.{rules, ◌≡◌, Option, Some, None, Result, Ok, Err, sym, subst}
use Rattle.ledger_acts.specs.LedgerState.{form_tab, form_key}
use Rattle.ledger_rows.specs.RowReading.{ReadsRow}
use Rattle.ledger_core.specs.declared.form_row.FormRow.{FormRow}
use Rattle.ledger_core.specs.declared.open_fault.OpenFault.{OpenFault}
use Rattle.ledger_core.specs.declared.open_fault.OpenFault.TheVariants.{Store}
use Rattle.ledger_core.specs.declared.opens.Counts.{Counts}
use Rattle.ledger_core.specs.FormRows.{form_in}
use Rattle.ledger_core.specs.Opens.{OpensGood, no_counts}
use Rattle.ledger_core.proofs.OpenCalls.{form_unread, filled, counted}
use Rattle.ledger_core.proofs.opens.open_good.Goals as goal

pub returns-in_err-kept-clause-rows : goal.returns-in_err-kept-clause-rows
returns-in_err-kept-clause-rows g c =
    let before = g.K.Keeper.known c.args.keeper.now in
    let after = g.K.Keeper.known c.read_row.new.keeper in
    let fault = c.in_err-kept.field-0.0 in
    let read = rw c.in_err-kept.was at c.read_row.ensures.reads in
    let is : c.from_residual.result ≡ Err (Store fault) = search rules in
    subst (λ (r : Result Counts OpenFault). OpensGood c.args.identity.now c.args.rows.now r before after) (sym is) (form_unread c.args.identity.now c.args.rows.now fault before after read)

pub returns-in-None-clause-rows : goal.returns-in-None-clause-rows
returns-in-None-clause-rows g c =
    let before = g.K.Keeper.known c.args.keeper.now in
    let mid = g.K.Keeper.known c.read_row.new.keeper in
    let after = g.K.Keeper.known c.begin.new.keeper in
    let read = rw c.in_ok-kept.was at c.read_row.ensures.reads in
    let none : ReadsRow form_in form_tab form_key (Ok None) before mid = subst (λ (o : Option FormRow). ReadsRow form_in form_tab form_key (Ok o) before mid) c.in-None.is read in
    filled c.args.identity.now c.args.rows.now before mid after c.begin.result none c.begin.ensures.leaves c.begin.ensures.store
    (λ counts is. (let none : counts ≡ no_counts = rw is at c.begin.ensures.none in none)) c.begin.ensures.looked

pub returns-in-Some-clause-rows : goal.returns-in-Some-clause-rows
returns-in-Some-clause-rows g c =
    let before = g.K.Keeper.known c.args.keeper.now in
    let mid = g.K.Keeper.known c.read_row.new.keeper in
    let after = g.K.Keeper.known c.count_kept.new.keeper in
    let form = c.in-Some.form in
    let read = rw c.in_ok-kept.was at c.read_row.ensures.reads in
    let some : ReadsRow form_in form_tab form_key (Ok (Some form)) before mid = subst (λ (o : Option FormRow). ReadsRow form_in form_tab form_key (Ok o) before mid) c.in-Some.is read in
    counted c.args.identity.now c.args.rows.now before mid after form c.count_kept.result some c.count_kept.ensures.asks
