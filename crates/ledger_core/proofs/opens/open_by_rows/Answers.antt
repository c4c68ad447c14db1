use Rattle.std.proofs.Common.{rules, ◌≡◌, Result, Err, sym, subst}
use Rattle.keeper_core.specs.declared.store_fault.StoreFault.TheVariants.{NoMemory}
use Rattle.ledger_core.specs.declared.open_fault.OpenFault.{OpenFault}
use Rattle.ledger_core.specs.declared.open_fault.OpenFault.TheVariants.{Store}
use Rattle.ledger_core.specs.declared.opens.Counts.{Counts}
use Rattle.ledger_core.specs.Opens.{open_refusal, open_batches, OpensByRows}
use Rattle.ledger_core.specs.Openings.{opened_by}
use Rattle.ledger_core.proofs.OpenCalls.{starved_before}
use Rattle.ledger_core.proofs.opens.open_by_rows.Goals as goal

pub returns-in_err-rows-clause-rows : goal.returns-in_err-rows-clause-rows
returns-in_err-rows-clause-rows g c =
    let opened = opened_by c.args.opening.now in
    let known = g.K.Keeper.known c.args.keeper.now in
    let is : c.from_residual.result ≡ Err (Store NoMemory) = search rules in
    subst (λ (r : Result Counts OpenFault). OpensByRows opened r known known) (sym is) (starved_before (open_refusal opened) (open_batches opened) known)

pub returns-in_err-identity-clause-rows : goal.returns-in_err-identity-clause-rows
returns-in_err-identity-clause-rows g c =
    let opened = opened_by c.args.opening.now in
    let known = g.K.Keeper.known c.args.keeper.now in
    let is : c.from_residual-in_err-identity.result ≡ Err (Store NoMemory) = search rules in
    subst (λ (r : Result Counts OpenFault). OpensByRows opened r known known) (sym is) (starved_before (open_refusal opened) (open_batches opened) known)
