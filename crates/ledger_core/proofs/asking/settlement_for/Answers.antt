use Rattle.std.proofs.Common.{rules, ◌≡◌, List, ℕ, Option, Some, Result, Ok, Err, sym, subst}
use Rattle.dh_base.specs.declared.outcome.Outcome.{Outcome}
use Rattle.keeper_core.specs.Leaving.{refused}
use Rattle.keeper_core.proofs.Leaving.{read_and}
use Rattle.ledger_rows.specs.declared.registration.Registration.{Registration}
use Rattle.ledger_rows.specs.RowKeys.{deal_tab, deal_key}
use Rattle.ledger_rows.specs.RowReading.{ReadsRow}
use Rattle.ledger_rows.specs.RowValues.{registration_in}
use Rattle.ledger_core.specs.declared.ask_fault.AskFault.{AskFault}
use Rattle.ledger_core.specs.declared.ask_fault.AskFault.TheVariants.{Store}
use Rattle.ledger_core.specs.Statements.{TellsParty}
use Rattle.ledger_core.proofs.Statements.{SettledTold, deal_unread, its_party, no_party}
use Rattle.ledger_core.proofs.asking.settlement_for.Goals as goal

pub returns-in_err-row-clause-tells : goal.returns-in_err-row-clause-tells
returns-in_err-row-clause-tells g c =
    let before = g.K.Keeper.known c.args.keeper.now in
    let after = g.K.Keeper.known c.read_row.new.keeper in
    let fault = c.in_err-row.field-0.0 in
    let read = rw c.in_err-row.was at c.read_row.ensures.reads in
    let is : c.from_residual.result ≡ Err (Store fault) = search rules in
    subst (λ (r : Result (Option Outcome) AskFault). SettledTold c.args.deal.now c.args.party.now r before after) (sym is) (deal_unread c.args.deal.now c.args.party.now fault before after read)

pub returns-then-branch-clause-tells : goal.returns-then-branch-clause-tells
returns-then-branch-clause-tells g c =
    let before = g.K.Keeper.known c.args.keeper.now in
    let after = g.K.Keeper.known c.read_row.new.keeper in
    let registration = c.in-Some.registration in
    let read = rw c.in_ok-row.was at c.read_row.ensures.reads in
    let some : ReadsRow registration_in deal_tab (deal_key c.args.deal.now) (Ok (Some registration)) before after = subst (λ (o : Option Registration). ReadsRow registration_in deal_tab (deal_key c.args.deal.now) (Ok o) before after) c.in-Some.is read in
    let told = subst (λ (t : List ℕ). TellsParty t c.args.party.now c.in_ok-has_party.field-0) c.as_slice.ensures (rw c.in_ok-has_party.was at c.has_party.ensures) in
    let yes_told = subst (TellsParty registration.text c.args.party.now) c.if-branch.true told in
    its_party c.args.deal.now c.args.party.now before after registration yes_told some

pub returns-clause-tells : goal.returns-clause-tells
returns-clause-tells g c =
    let before = g.K.Keeper.known c.args.keeper.now in
    let after = g.K.Keeper.known c.read_row.new.keeper in
    let registration = c.in-Some.registration in
    let read = rw c.in_ok-row.was at c.read_row.ensures.reads in
    let some : ReadsRow registration_in deal_tab (deal_key c.args.deal.now) (Ok (Some registration)) before after = subst (λ (o : Option Registration). ReadsRow registration_in deal_tab (deal_key c.args.deal.now) (Ok o) before after) c.in-Some.is read in
    let told = subst (λ (t : List ℕ). TellsParty t c.args.party.now c.in_ok-has_party.field-0) c.as_slice.ensures (rw c.in_ok-has_party.was at c.has_party.ensures) in
    let no_told = subst (TellsParty registration.text c.args.party.now) c.if-branch.false told in
    no_party c.args.deal.now c.args.party.now before after registration no_told (read_and refused before after (λ e. absurd cc) some.leaves) some
