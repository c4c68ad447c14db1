use Rattle.std.proofs.Common.{[], ◌∷◌}
use Rattle.keeper_core.specs.Leaving.{Ended, of_keep_fault, Leaves}
use Rattle.keeper_core.proofs.Leaving.{then_commit, then_read, ends_by, refusal}
use Rattle.keeper_core_tests.proofs.callers.commit_both.Goals as goal

pub returns-in_err-commit-2-clause-leaves : goal.returns-in_err-commit-2-clause-leaves
returns-in_err-commit-2-clause-leaves g c =
    let fault = c.in_err-commit-2.field-0.0 in
    let one = rw c.in_ok-commit.was at c.commit.ensures.leaves in
    let read = rw c.in_ok-_between.was at c.get.ensures.leaves in
    let two = rw c.in_err-commit-2.was at c.commit-2.ensures.leaves in
    let known = g.K.Keeper.known in
    ends_by (λ (how : Ended). Leaves (c.args.first.now ∷ c.args.second.now ∷ []) how (known c.args.keeper.now) (known c.commit-2.new.self)) of_keep_fault c.from_residual-in_err-commit-2.result fault c.from_residual-in_err-commit-2.ensures.1
    (then_commit (c.args.first.now ∷ []) c.args.second.now (refusal fault) (known c.args.keeper.now) (known c.get.new.self) (known c.commit-2.new.self) (then_read (c.args.first.now ∷ []) (known c.args.keeper.now) (known c.commit.new.self) (known c.get.new.self) one read) two)
