use Rattle.std.proofs.Common.{[], ◌∷◌, ◌++◌, arith}
use Rattle.dh_base.specs.declared.outcome.Outcome.TheVariants.{Commit}
use Rattle.ledger_rows.specs.declared.entry.Entry.TheVariants.{Settlement}
use Rattle.ledger_history.proofs.laws.dues_are_paid.Goals as goal

pub returns : goal.returns
returns c = λ name rows front rest deal account turns due asset h below all covers.
    let before = c.fronts_are_histories.ensures name rows (front ++ rest) (Settlement deal Commit ∷ []) h in
    let grows = c.moved_no_more.ensures name rows front rest deal account turns asset before below all in
    let paid = c.settlements_pay.ensures name rows (front ++ rest) deal Commit account asset h in
    omega (arith, grows, paid, covers)
