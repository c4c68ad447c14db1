use Rattle.std.proofs.Common.{rules, ◌≡◌, Option, Ok, Result, Err, sym, subst}
use Rattle.ledger_rows.specs.declared.registration.Registration.{Registration}
use Rattle.ledger_rows.specs.RowReading.{Reads, LacksForm, deal_said, deal_refusal}
use Rattle.ledger_claims.specs.declared.claim_reply.ClaimReply.{ClaimReply}
use Rattle.ledger_claims.specs.declared.claim_reply.ClaimReply.TheVariants.{Already}
use Rattle.ledger_claims.specs.declared.show_fault.ShowFault.{ShowFault}
use Rattle.ledger_claims.specs.declared.show_fault.ShowFault.TheVariants.{Store}
use Rattle.ledger_claims.specs.Claiming.{ClaimsByRows, AcceptsClaim}
use Rattle.ledger_claims.proofs.ClaimCalls.{deal_unread, unsettled}
use Rattle.ledger_claims.proofs.Accepting.{accepts_unread, accepts_ended, accepts_undecided, accepts_by}
use Rattle.ledger_claims.proofs.claiming.claim_by_rows.Goals as goal

pub returns-in_err-found-clause-rows : goal.returns-in_err-found-clause-rows
returns-in_err-found-clause-rows g c =
    let genesis = c.args.genesis.now in
    let number = c.args.number in
    let deal = c.args.deal.now in
    let claim = c.args.claim.now in
    let before = g.K.Keeper.known c.args.keeper.now in
    let mid = g.K.Keeper.known c.read_deal_row.new.keeper in
    let fault = c.in_err-found.field-0.0 in
    let is : c.from_residual.result ≡ Err (Store fault) = search rules in
    subst (λ (r : Result ClaimReply ShowFault). ClaimsByRows genesis number deal claim r before mid) (sym is)
    (deal_unread genesis number deal claim fault before mid (rw c.in_err-found.was at c.read_deal_row.ensures.reads))

pub returns-in_err-found-clause-accepts : goal.returns-in_err-found-clause-accepts
returns-in_err-found-clause-accepts g c =
    let genesis = c.args.genesis.now in
    let deal = c.args.deal.now in
    let claim = c.args.claim.now in
    let before = g.K.Keeper.known c.args.keeper.now in
    let mid = g.K.Keeper.known c.read_deal_row.new.keeper in
    let fault = c.in_err-found.field-0.0 in
    let is : c.from_residual.result ≡ Err (Store fault) = search rules in
    subst (λ (r : Result ClaimReply ShowFault). AcceptsClaim genesis deal claim r before mid) (sym is)
    (accepts_unread genesis deal claim fault before mid (rw c.in_err-found.was at c.read_deal_row.ensures.reads))

pub returns-in-Some-settled-clause-accepts : goal.returns-in-Some-settled-clause-accepts
returns-in-Some-settled-clause-accepts g c =
    let genesis = c.args.genesis.now in
    let deal = c.args.deal.now in
    let claim = c.args.claim.now in
    let before = g.K.Keeper.known c.args.keeper.now in
    let mid = g.K.Keeper.known c.read_deal_row.new.keeper in
    let read = subst (λ (said : Option Registration). Reads 1 (deal_said deal) (deal_refusal deal) LacksForm (Ok said) before mid) c.in-Some.is (rw c.in_ok-found.was at c.read_deal_row.ensures.reads) in
    let outcome = c.in-Some-settled.outcome in
    accepts_ended genesis deal claim c.in-Some.found outcome (Already outcome) before mid c.in-Some-settled.is read

pub returns-in_err-outcome-clause-accepts : goal.returns-in_err-outcome-clause-accepts
returns-in_err-outcome-clause-accepts g c =
    let genesis = c.args.genesis.now in
    let deal = c.args.deal.now in
    let claim = c.args.claim.now in
    let before = g.K.Keeper.known c.args.keeper.now in
    let mid = g.K.Keeper.known c.read_deal_row.new.keeper in
    let fault = c.in_err-outcome.field-0.0 in
    let is : c.from_residual-in_err-outcome.result ≡ Err fault = search rules in
    subst (λ (r : Result ClaimReply ShowFault). AcceptsClaim genesis deal claim r before mid) (sym is)
    (accepts_undecided genesis deal claim fault before mid (rw c.in_err-outcome.was at c.decide.ensures.decides))

pub returns-in_err-settle-clause-rows : goal.returns-in_err-settle-clause-rows
returns-in_err-settle-clause-rows g c =
    let genesis = c.args.genesis.now in
    let number = c.args.number in
    let deal = c.args.deal.now in
    let claim = c.args.claim.now in
    let before = g.K.Keeper.known c.args.keeper.now in
    let mid = g.K.Keeper.known c.read_deal_row.new.keeper in
    let read = subst (λ (said : Option Registration). Reads 1 (deal_said deal) (deal_refusal deal) LacksForm (Ok said) before mid) c.in-Some.is (rw c.in_ok-found.was at c.read_deal_row.ensures.reads) in
    let after = g.K.Keeper.known c.settle.new.keeper in
    let found = c.in-Some.found in
    let outcome = c.in_ok-outcome.outcome in
    let fault = c.in_err-settle.field-0.0 in
    let decides = sym (rw c.in_ok-outcome.was at c.decide.ensures.exact) in
    let is : c.from_residual-in_err-settle.result ≡ Err (Store fault) = search rules in
    let rows = unsettled genesis number deal claim found c.in_default-settled.is outcome before mid after decides read fault (rw c.in_err-settle.was at c.settle.ensures) in
    subst (λ (r : Result ClaimReply ShowFault). ClaimsByRows genesis number deal claim r before after) (sym is) rows

pub returns-in_err-settle-clause-accepts : goal.returns-in_err-settle-clause-accepts
returns-in_err-settle-clause-accepts g c =
    let genesis = c.args.genesis.now in
    let number = c.args.number in
    let deal = c.args.deal.now in
    let claim = c.args.claim.now in
    let before = g.K.Keeper.known c.args.keeper.now in
    let mid = g.K.Keeper.known c.read_deal_row.new.keeper in
    let read = subst (λ (said : Option Registration). Reads 1 (deal_said deal) (deal_refusal deal) LacksForm (Ok said) before mid) c.in-Some.is (rw c.in_ok-found.was at c.read_deal_row.ensures.reads) in
    let after = g.K.Keeper.known c.settle.new.keeper in
    let found = c.in-Some.found in
    let outcome = c.in_ok-outcome.outcome in
    let fault = c.in_err-settle.field-0.0 in
    let decides = sym (rw c.in_ok-outcome.was at c.decide.ensures.exact) in
    let is : c.from_residual-in_err-settle.result ≡ Err (Store fault) = search rules in
    let rows = unsettled genesis number deal claim found c.in_default-settled.is outcome before mid after decides read fault (rw c.in_err-settle.was at c.settle.ensures) in
    subst (λ (r : Result ClaimReply ShowFault). AcceptsClaim genesis deal claim r before after) (sym is)
    (accepts_by genesis deal claim number outcome (Err (Store fault)) before after decides (rw c.in_ok-outcome.was at c.decide.ensures.decides) rows)
