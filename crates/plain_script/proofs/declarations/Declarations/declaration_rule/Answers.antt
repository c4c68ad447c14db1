use Rattle.plain_script.proofs.declarations.Declarations.declaration_rule.Goals as goal

pub returns-in-Open : goal.returns-in-Open
returns-in-Open c = rw c.in-Open.is c.open_rule.ensures
