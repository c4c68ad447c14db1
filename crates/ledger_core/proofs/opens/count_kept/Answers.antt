use Rattle.std.proofs.Common.{rules, ◌≡◌, true, IfErr, Some, Result, Err, sym, subst}
use Rattle.dh_base.specs.Ids.{same_id}
use Rattle.ledger_rows.specs.Asking.{Asks}
use Rattle.ledger_core.specs.declared.open_fault.OpenFault.{OpenFault}
use Rattle.ledger_core.specs.declared.open_fault.OpenFault.TheVariants.{Store}
use Rattle.ledger_core.specs.declared.opens.Counts.{Counts}
use Rattle.ledger_core.specs.OpenFaults.{of_open_fault}
use Rattle.ledger_core.specs.Opens.{AreCounts, counting_looks, kept_refusal, OpenCause}
use Rattle.ledger_core.proofs.OpenCalls.{stored_count, stored_cause}
use Rattle.ledger_core.proofs.opens.count_kept.Goals as goal

pub returns-in_err-count_all-clause-asks : goal.returns-in_err-count_all-clause-asks
returns-in_err-count_all-clause-asks g c =
    let before = g.K.Keeper.known c.args.keeper.now in
    let after = g.K.Keeper.known c.count_all.new.keeper in
    let fault = c.in_err-count_all.field-0.0 in
    let asked = rw c.in_err-count_all.was at c.count_all.ensures.asks in
    let same : same_id c.args.kept.now.identity c.args.identity.now ≡ true = search rules in
    let is : c.from_residual.result ≡ Err (Store fault) = search rules in
    subst (λ (r : Result Counts OpenFault). Asks of_open_fault counting_looks (λ tables. kept_refusal c.args.identity.now tables (Some (Some c.args.kept.now))) AreCounts r before after) (sym is)
    (stored_count c.args.identity.now c.args.kept.now fault before after same asked)

pub returns-in_err-count_all-clause-cause : goal.returns-in_err-count_all-clause-cause
returns-in_err-count_all-clause-cause g c =
    let after = g.K.Keeper.known c.count_all.new.keeper in
    let fault = c.in_err-count_all.field-0.0 in
    let cause = rw c.in_err-count_all.was at c.count_all.ensures.cause in
    let is : c.from_residual.result ≡ Err (Store fault) = search rules in
    subst (λ (r : Result Counts OpenFault). IfErr r (OpenCause after.tables)) (sym is) (stored_cause after.tables fault cause)
