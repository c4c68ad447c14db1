use Rattle.one_log.proofs.Walks.{one_set}
use Rattle.one_log.proofs.Entered.{fair_end}
use Rattle.one_log.specs.Moments.{after_all}
use Rattle.one_log.proofs.laws.one_set_an_epoch.Goals as goal

pub returns : goal.returns
returns c = λ w run chain more front ahead set other o r g first second same. one_set (after_all run w) (fair_end w run o r g) chain more front ahead set other first second same
