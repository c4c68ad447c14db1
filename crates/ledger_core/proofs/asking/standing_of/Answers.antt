use Rattle.std.proofs.Common.{rules, ◌≡◌, Result, Err, sym, subst}
use Rattle.ledger_core.specs.declared.ask_fault.AskFault.{AskFault}
use Rattle.ledger_core.specs.declared.ask_fault.AskFault.TheVariants.{Store}
use Rattle.ledger_core.specs.declared.asking.Standing.{Standing}
use Rattle.ledger_core.specs.AskFaults.{of_ask_fault}
use Rattle.ledger_core.specs.Questions.{TellsBy}
use Rattle.ledger_rows.specs.Entries.{book_of}
use Rattle.ledger_core.specs.Statements.{statement_refusal, IsStanding}
use Rattle.ledger_core.proofs.Standings.{tells_refused, owned_refused, standing}
use Rattle.ledger_core.proofs.Statements.{IsSettled}
use Rattle.ledger_core.proofs.asking.standing_of.Goals as goal

pub returns-in_err-settled-clause-tells : goal.returns-in_err-settled-clause-tells
returns-in_err-settled-clause-tells g c =
    let deal = c.args.deal.now in
    let party = c.args.party.now in
    let before = g.K.Keeper.known c.args.keeper.now in
    let after = g.K.Keeper.known c.settlement_for.new.keeper in
    let fault = c.in_err-settled.field-0.0 in
    let told = rw c.in_err-settled.was at c.settlement_for.ensures.tells in
    let is : c.from_residual.result ≡ Err fault = search rules in
    subst (λ (r : Result Standing AskFault). TellsBy of_ask_fault (statement_refusal deal party) (λ opened entries. IsStanding (book_of opened.rows entries) deal party) r before after) (sym is)
    (tells_refused of_ask_fault (statement_refusal deal party) (IsSettled deal party) (λ opened entries. IsStanding (book_of opened.rows entries) deal party) fault before after told)

pub returns-in_err-owned-clause-tells : goal.returns-in_err-owned-clause-tells
returns-in_err-owned-clause-tells g c =
    let deal = c.args.deal.now in
    let party = c.args.party.now in
    let before = g.K.Keeper.known c.args.keeper.now in
    let mid = g.K.Keeper.known c.settlement_for.new.keeper in
    let after = g.K.Keeper.known c.owned_in.new.keeper in
    let fault = c.in_err-owned.field-0.0 in
    let first = rw c.in_ok-settled.was at c.settlement_for.ensures.tells in
    let second = rw c.in_err-owned.was at c.owned_in.ensures.tells in
    let is : c.from_residual-in_err-owned.result ≡ Err (Store fault) = search rules in
    subst (λ (r : Result Standing AskFault). TellsBy of_ask_fault (statement_refusal deal party) (λ opened entries. IsStanding (book_of opened.rows entries) deal party) r before after) (sym is)
    (owned_refused deal party c.requires.deal c.requires.party c.in_ok-settled.settled before mid after first fault second)

pub returns-clause-tells : goal.returns-clause-tells
returns-clause-tells g c =
    let before = g.K.Keeper.known c.args.keeper.now in
    let mid = g.K.Keeper.known c.settlement_for.new.keeper in
    let after = g.K.Keeper.known c.owned_in.new.keeper in
    let first = rw c.in_ok-settled.was at c.settlement_for.ensures.tells in
    let second = rw c.in_ok-owned.was at c.owned_in.ensures.tells in
    let leaves = rw c.in_ok-owned.was at c.owned_in.ensures.leaves in
    standing c.args.deal.now c.args.party.now c.requires.deal c.requires.party c.in_ok-settled.settled before mid after first c.in_ok-owned.owned leaves second
