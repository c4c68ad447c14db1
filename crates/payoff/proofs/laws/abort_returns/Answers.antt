use Rattle.payoff.specs.Moments.{after_all}
use Rattle.payoff.proofs.Kept.{kept_all}
use Rattle.payoff.proofs.Paid.{escrow_is_need}
use Rattle.payoff.proofs.laws.abort_returns.Goals as goal

pub returns : goal.returns
returns d = λ w run name id index account asset front o steps given f c.
    escrow_is_need (λ steps party ledger asset amount there. ((d.escrowed_needs.ensures.each steps party ledger asset amount).0 there).1) d.escrowed_once.ensures
    (after_all run w) (kept_all w run o steps given) given.one_text name id index account asset front f c
