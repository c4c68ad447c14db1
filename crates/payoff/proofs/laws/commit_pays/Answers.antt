use Rattle.dh_base.specs.declared.outcome.Outcome.TheVariants.{Commit}
use Rattle.payoff.specs.Moments.{after_all}
use Rattle.payoff.proofs.Kept.{kept_all}
use Rattle.payoff.proofs.Settlements.{the_deal, front_before}
use Rattle.payoff.proofs.Meant.{voted, behind, committed}
use Rattle.payoff.proofs.Paid.{due_is_paid}
use Rattle.payoff.proofs.laws.commit_pays.Goals as goal

pub returns-clause-signed : goal.returns-clause-signed
returns-clause-signed d = λ w run certified name id index account before o steps given has s c.
    let end = after_all run w in
    let kept = kept_all w run o steps given in
    let the = the_deal end kept name before id index account (front_before end name id Commit before s) c in
    committed end kept given.one_text account c.agent id index c.deal c.complies the
    (voted (λ log deal place outcome e. (d.first_decisive.ensures.some log deal place outcome).0 e) end certified has kept given.one_text name id index account before s c)

pub returns-clause-paid : goal.returns-clause-paid
returns-clause-paid d = λ w run certified name id index account asset before o steps given has s c.
    let end = after_all run w in
    let kept = kept_all w run o steps given in
    let the = the_deal end kept name before id index account (front_before end name id Commit before s) c in
    due_is_paid d.plans_have_turns.ensures d.moved_no_more.ensures end kept given.one_text name id account index asset before s c
    (behind end kept given.one_text account c.agent id index c.deal c.complies the
    (voted (λ log deal place outcome e. (d.first_decisive.ensures.some log deal place outcome).0 e) end certified has kept given.one_text name id index account before s c))
