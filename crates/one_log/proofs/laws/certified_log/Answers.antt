use Rattle.one_log.proofs.Together.{together}
use Rattle.one_log.proofs.Entered.{fair_end}
use Rattle.one_log.specs.Moments.{after_all}
use Rattle.one_log.proofs.laws.certified_log.Goals as goal

pub returns : goal.returns
returns c = λ w run lists o r g all. together (after_all run w) (fair_end w run o r g) lists all
