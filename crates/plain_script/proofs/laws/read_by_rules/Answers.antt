use Rattle.plain_script.proofs.Declared.{declared_good, few_happen}
use Rattle.plain_script.proofs.laws.read_by_rules.Goals as goal

pub returns-clause-declared : goal.returns-clause-declared
returns-clause-declared c = declared_good

pub returns-clause-few : goal.returns-clause-few
returns-clause-few c = few_happen
