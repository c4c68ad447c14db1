use Rattle.std.proofs.Common.{◌∙◌, arith}
use Rattle.std.proofs.lemmas.Result.{on_ok_weaker}
use Rattle.sqlite.specs.Held.{state}
use Rattle.keeper_sql.proofs.Creating.{creates_if_ok}
use Rattle.keeper_sql.proofs.statements.create.Goals as goal

pub returns-clause-made : goal.returns-clause-made
returns-clause-made g c clean none =
    on_ok_weaker c.execute.result (λ it. (it.0, it.1, it.2 ∙ c.requires)) (creates_if_ok (state g.S.Store c.args.conn.now) (state g.S.Store c.execute.new.self) c.execute.result none (c.execute.ensures.runs clean))

pub returns-clause-clean : goal.returns-clause-clean
returns-clause-clean g c clean = omega (arith, c.execute.ensures.survives.clean)
